-- The word of up to eight letters, byte by byte.
use Rattle.std.proofs.Common.{◌≡◌, ℕ, zero, suc, ◌+◌, ◌-◌, ◌*◌, ◌/◌, ◌%◌, ◌^◌, ◌<◌, ◌≤◌, List, [], ◌∷◌, ◌++◌, length, drop, replicate, slice_index, refl, sym, ap, ◌∙◌, arith}
use Rattle.std.proofs.Math.Nat.{div-div-eq-div-mul, pow-le-pow_right, pow-succ'}
use Rattle.std.proofs.lemmas.List.{drop-replicate}
use Rattle.byteorder.specs.Endian.{little_from, little_number}
use Rattle.byteorder.specs.Numbers.{little_from-cons}
use Rattle.byteorder.proofs.Bytes.{little_from-zeros_after}
use Rattle.zo_hash_dir.specs.Letters.{letters_word}

-- all bytes of a list, read as one number
number_of_letters : (letters : List ℕ) → little_from 0 (length letters) letters ≡ letters_word letters
number_of_letters [] = refl
number_of_letters (letter ∷ letters) =
    ap (λ (word : ℕ). letter + 256 * word) (little_from-cons 0 (length letters) letter letters ∙ number_of_letters letters)

-- eight bytes, the letters and zeros behind them, read as one number
pub word_read : (letters : List ℕ) → length letters ≤ 8 → little_number 8 (letters ++ drop (length letters) (replicate 8 0)) ≡ letters_word letters
word_read letters short =
    ap (λ (zeros : List ℕ). little_from 0 8 (letters ++ zeros)) (drop-replicate (length letters) 8 0)
    ∙ little_from-zeros_after letters (8 - length letters) 8 (omega arith)
    ∙ number_of_letters letters

-- a word of letters has no bit above them
pub letters_within : (letters : List ℕ) → ((k : ℕ) → k < length letters → slice_index letters k < 256) → letters_word letters < 256 ^ length letters
letters_within [] bytes = omega arith
letters_within (letter ∷ letters) bytes =
    let first : letter < 256 = bytes 0 (omega arith) in
    let rest = letters_within letters (λ k lt. bytes (suc k) (omega arith)) in
    rw (pow-succ' 256 (length letters)) (omega arith)

-- the word of at most eight letters fits
pub letters_fit : (letters : List ℕ) → length letters ≤ 8 → ((k : ℕ) → k < length letters → slice_index letters k < 256) → letters_word letters < 2 ^ 64
letters_fit letters short bytes =
    let below = letters_within letters bytes in
    let top : 256 ^ length letters ≤ 256 ^ 8 = pow-le-pow_right (omega arith) short in
    omega (arith, below, top)

-- byte k of a word of letters is letter k
pub letter_at : (letters : List ℕ) → ((k : ℕ) → k < length letters → slice_index letters k < 256) → (k : ℕ) → k < length letters → letters_word letters / 256 ^ k % 256 ≡ slice_index letters k
letter_at [] bytes k lt = absurd (omega arith)
letter_at (letter ∷ letters) bytes zero lt =
    let first : letter < 256 = bytes 0 (omega arith) in
    omega arith
letter_at (letter ∷ letters) bytes (suc k) lt =
    let first : letter < 256 = bytes 0 (omega arith) in
    let lower : (letter + 256 * letters_word letters) / 256 ≡ letters_word letters = omega arith in
    let shift : (letter + 256 * letters_word letters) / 256 ^ suc k ≡ letters_word letters / 256 ^ k =
    ap (λ (p : ℕ). (letter + 256 * letters_word letters) / p) (pow-succ' 256 k)
    ∙ sym (div-div-eq-div-mul (letter + 256 * letters_word letters) 256 (256 ^ k))
    ∙ ap (λ (n : ℕ). n / 256 ^ k) lower in
    ap (λ (n : ℕ). n % 256) shift ∙ letter_at letters (λ j below. bytes (suc j) (omega arith)) k (omega arith)
