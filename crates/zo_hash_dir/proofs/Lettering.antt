-- The letters of a name in one word.
use Rattle.std.proofs.Common.{◌≡◌, ℕ, ◌+◌, ◌*◌, ◌/◌, ◌%◌, ◌^◌, ◌<◌, Bool, true, List, length, take, drop, get_or, ap, sym, ◌∙◌, arith}
use Rattle.std.proofs.lemmas.List.{get_or-take, get_or-drop, length-take, length-drop}

-- eight letters of a name, in a word
pub letter_in_word : (name letters : List ℕ) (i k : ℕ) → letters ≡ take 8 (drop (8 * i) name) → k < 8 → get_or letters k 0 ≡ get_or name (8 * i + k) 0
letter_in_word name letters i k is low =
    ap (λ (xs : List ℕ). get_or xs k 0) is ∙ get_or-take 8 (drop (8 * i) name) k 0 low ∙ get_or-drop (8 * i) name k 0

-- the word begins with the letters just where it has those of the name
pub has_letters_is : (name letters : List ℕ) (i word : ℕ) (r : Bool) → letters ≡ take 8 (drop (8 * i) name) → 8 * i < length name
    → (r ≡ true → (k : ℕ) → k < length letters → get_or letters k 0 ≡ word / 256 ^ k % 256)
    → (((k : ℕ) → k < length letters → get_or letters k 0 ≡ word / 256 ^ k % 256) → r ≡ true)
    → (r ≡ true → (8 * i < length name) × ((k : ℕ) → k < 8 → 8 * i + k < length name → get_or name (8 * i + k) 0 ≡ word / 256 ^ k % 256))
    × ((8 * i < length name) × ((k : ℕ) → k < 8 → 8 * i + k < length name → get_or name (8 * i + k) 0 ≡ word / 256 ^ k % 256) → r ≡ true)
has_letters_is name letters i word r is inside holds back = (
  λ t. (inside, λ k low within. sym (letter_in_word name letters i k is low) ∙ holds t k (omega (arith, ap length is, length-take 8 (drop (8 * i) name), length-drop (8 * i) name))),
  λ h. back (λ k low.
      let small : k < 8 = omega (arith, ap length is, length-take 8 (drop (8 * i) name)) in
      let within : 8 * i + k < length name = omega (arith, ap length is, length-take 8 (drop (8 * i) name), length-drop (8 * i) name) in
      letter_in_word name letters i k is small ∙ h.1 k small within),
)
