-- A word's bytes, the lowest first, are its letters.
use Rattle.std.proofs.Common.{◌≡◌, ℕ, zero, suc, ◌/◌, ◌%◌, ◌^◌, ◌≤◌, ◌<◌, length, take, get_or, Bool, true, eqb, List, refl, ap, sym, ◌∙◌, arith}
use Rattle.std.specs.Cmp.Lexicographic.{pointwise}
use Rattle.std.proofs.lemmas.Bool.Decides.{Decides-eqb}
use Rattle.std.proofs.lemmas.Slice.Eq.{slice_eq-Decides}
use Rattle.std.proofs.lemmas.List.{get_or-take, length-take-le, ext_get_or}
use Rattle.byteorder.specs.Endian.{little_bytes}
use Rattle.zo_hash_dir.proofs.letters.begins_with.Goals as goal

byte_of : (word k : ℕ) → k < 8 → get_or (little_bytes 8 word) k 0 ≡ word / 256 ^ k % 256
byte_of word zero low = omega arith
byte_of word (suc zero) low = refl
byte_of word (suc (suc zero)) low = refl
byte_of word (suc (suc (suc zero))) low = refl
byte_of word (suc (suc (suc (suc zero)))) low = refl
byte_of word (suc (suc (suc (suc (suc zero))))) low = refl
byte_of word (suc (suc (suc (suc (suc (suc zero)))))) low = refl
byte_of word (suc (suc (suc (suc (suc (suc (suc zero))))))) low = refl
byte_of word (suc (suc (suc (suc (suc (suc (suc (suc k)))))))) low = absurd (omega arith)

begins_is : (word : ℕ) (letters bytes : List ℕ) (r : Bool) → length letters ≤ 8 → bytes ≡ little_bytes 8 word → r ≡ pointwise eqb (take (length letters) bytes) letters
    → (r ≡ true → (k : ℕ) → k < length letters → get_or letters k 0 ≡ word / 256 ^ k % 256)
    × (((k : ℕ) → k < length letters → get_or letters k 0 ≡ word / 256 ^ k % 256) → r ≡ true)
begins_is word letters bytes r short bytes_are is =
    let n = length letters in
    let decides = slice_eq-Decides Decides-eqb (take n bytes) letters r is in
    let byte = λ (k : ℕ) (low : k < n). get_or-take n bytes k 0 low ∙ ap (λ (xs : List ℕ). get_or xs k 0) bytes_are ∙ byte_of word k (omega arith) in
    let long : length bytes ≡ 8 = ap length bytes_are in
    let len : length (take n bytes) ≡ n = length-take-le n bytes (omega arith) in (
      λ t k low. ap (λ (xs : List ℕ). get_or xs k 0) (sym (decides.0 t)) ∙ byte k low,
      λ same. decides.1 (ext_get_or 0 (take n bytes) letters len (λ k low. let low' : k < n = omega arith in byte k low' ∙ sym (same k low'))),
    )

pub returns : goal.returns
returns c = begins_is c.args.word c.args.letters.now c.write_u64.new.buf c.eq.result c.requires c.write_u64.ensures c.eq.ensures
