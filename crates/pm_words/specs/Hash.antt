use Rattle.std.specs.Prelude.{ℕ, ◌*◌, ◌%◌, ◌^◌, List, fold, bit_xor}

-- a hash after one more byte: the byte is xored in, and then comes the product
abbrev pub fnv_step : ℕ → ℕ → ℕ
fnv_step hash byte = (bit_xor hash byte * 1099511628211) % 2 ^ 64

-- FNV-1a of 64 bits
abbrev pub fnv64_of : List ℕ → ℕ
fnv64_of bytes = fold fnv_step 14695981039346656037 bytes
