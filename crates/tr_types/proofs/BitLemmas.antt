-- The second and the third bit of a number, as a set of bits has them and as the digits have them.
use Rattle.std.proofs.Common.{◌≡◌, ℕ, zero, suc, ◌*◌, ◌/◌, ◌%◌, ◌<◌, eqb, arith}
use Rattle.std.specs.Int.Bits.{bit_and}
use Rattle.std.proofs.lemmas.Bool.{eq-eqb, ne_eqb}
use Rattle.std.proofs.lemmas.Nat.Bits.{and_high}

bit_is : (got digit unit : ℕ) → digit < 2 → 0 < unit → got ≡ digit * unit → eqb got unit ≡ eqb digit 1
bit_is got zero unit small some is = ne_eqb got unit (λ e. let none : got ≡ 0 * unit = is in omega arith)
bit_is got (suc zero) unit small some is = eq-eqb got unit (let one : got ≡ 1 * unit = is in omega arith)
bit_is got (suc (suc digit)) unit small some is = absurd (omega arith)

pub second_bit : (n : ℕ) → eqb (bit_and n 2) 2 ≡ eqb (n / 2 % 2) 1
second_bit n = bit_is (bit_and n 2) (n / 2 % 2) 2 (omega arith) (omega arith) (and_high n 1 1)

pub third_bit : (n : ℕ) → eqb (bit_and n 4) 4 ≡ eqb (n / 4 % 2) 1
third_bit n = bit_is (bit_and n 4) (n / 4 % 2) 4 (omega arith) (omega arith) (and_high n 1 2)
