-- Names as texts in words.
use Rattle.std.proofs.Common.{◌≡◌, ◌≢◌, ◌⊎◌, ℕ, ◌+◌, ◌*◌, ◌/◌, ◌%◌, ◌^◌, ◌<◌, ◌≤◌, Bool, true, false, if◌then◌else◌, List, ◌∷◌, length, get_or, ap, sym, refl, ◌∙◌, inl, inr, arith}
use Rattle.std.specs.Prelude.{Some}
use Rattle.std.proofs.lemmas.Bool.{cases_lt}
use Rattle.std.proofs.lemmas.Bool.Decides.{Decides-eqb}
use Rattle.std.proofs.lemmas.Slice.Eq.{slice_eq-Decides}
use Rattle.std.proofs.lemmas.List.{ext_get_or}
use Rattle.std.proofs.lemmas.List.FromFn.{length-map-range_with_len, get_or-map-range_with_len}
use Rattle.tr_types.specs.Paths.{same_text}
use Rattle.zo_layout.specs.Layout.{word_of, entry_target, name_length, name_word}
use Rattle.zo_model.specs.Directory.{byte_at, text_at, name_at, target_in}
use Rattle.zo_hash_dir.specs.Looking.{Agrees}

pub same_text_is : (a b : List ℕ) → (same_text a b ≡ true → a ≡ b) × (a ≡ b → same_text a b ≡ true)
same_text_is a b = slice_eq-Decides Decides-eqb a b (same_text a b) refl

pub other_text : (a b : List ℕ) → a ≢ b → same_text a b ≡ false
other_text a b ne = by (same_text a b) refl
  where
    by : (r : Bool) → same_text a b ≡ r → r ≡ false
    by true e = absurd (ne ((same_text_is a b).0 e))
    by false e = refl

-- the target among entries of which the first has the name, or another
pub target_here : (at : ℕ → ℕ) (name : List ℕ) (entry : ℕ) (entries : List ℕ) → name_at at entry ≡ name → target_in at name (entry ∷ entries) ≡ Some (at (entry_target entry))
target_here at name entry entries is =
    ap (λ (t : Bool). if t then Some (at (entry_target entry)) else target_in at name entries) ((same_text_is (name_at at entry) name).1 is)

pub target_behind : (at : ℕ → ℕ) (name : List ℕ) (entry : ℕ) (entries : List ℕ) → name_at at entry ≢ name → target_in at name (entry ∷ entries) ≡ target_in at name entries
target_behind at name entry entries ne =
    ap (λ (t : Bool). if t then Some (at (entry_target entry)) else target_in at name entries) (other_text (name_at at entry) name ne)

-- the words of a name, from its first one or from its entry on
pub name_word_is : (entry i : ℕ) → word_of (name_word entry 0) i ≡ name_word entry i
name_word_is entry i = omega arith

pub length-text_at : (at : ℕ → ℕ) (start len : ℕ) → length (text_at at start len) ≡ len
length-text_at at start len = length-map-range_with_len (byte_at at start) 0 len

pub get_or-text_at : (at : ℕ → ℕ) (start len k : ℕ) → k < len → get_or (text_at at start len) k 0 ≡ byte_at at start k
get_or-text_at at start len k low = get_or-map-range_with_len (byte_at at start) 0 len k k 0 low (omega arith)

-- an entry of the name's length with the name's letters has the name, and the other way round
pub agrees_all : (at : ℕ → ℕ) (name : List ℕ) (entry count : ℕ) → Agrees at name entry count → length name ≤ count → name_at at entry ≡ name
agrees_all at name entry count a all =
    let start = name_word entry 0 in
    let n = at (name_length entry) in
    let len : length (name_at at entry) ≡ length name = length-text_at at start n ∙ a.len in
    ext_get_or 0 (name_at at entry) name len (λ k low.
    let inside : k < length name = omega arith in
    let below : k < n = omega (arith, a.len) in
    get_or-text_at at start n k below ∙ sym (a.letters k (omega arith) inside))

pub named_len : (at : ℕ → ℕ) (name : List ℕ) (entry : ℕ) → name_at at entry ≡ name → at (name_length entry) ≡ length name
named_len at name entry is = sym (length-text_at at (name_word entry 0) (at (name_length entry))) ∙ ap length is

pub named_letter : (at : ℕ → ℕ) (name : List ℕ) (entry k : ℕ) → name_at at entry ≡ name → k < length name → get_or name k 0 ≡ byte_at at (name_word entry 0) k
named_letter at name entry k is low =
    let n = at (name_length entry) in
    let below : k < n = omega (arith, named_len at name entry is) in
    ap (λ (xs : List ℕ). get_or xs k 0) (sym is) ∙ get_or-text_at at (name_word entry 0) n k below

-- a letter of word i of a name
pub byte_of_word : (at : ℕ → ℕ) (entry i k word : ℕ) → k < 8 → word ≡ at (name_word entry i) → byte_at at (name_word entry 0) (8 * i + k) ≡ word / 256 ^ k % 256
byte_of_word at entry i k word low is =
    let word_no : (8 * i + k) / 8 ≡ i = omega arith in
    let place : (8 * i + k) % 8 ≡ k = omega arith in
    ap (λ (j : ℕ). at (word_of (name_word entry 0) j) / 256 ^ ((8 * i + k) % 8) % 256) word_no
    ∙ ap (λ (j : ℕ). at (word_of (name_word entry 0) i) / 256 ^ j % 256) place
    ∙ ap (λ (a : ℕ). at a / 256 ^ k % 256) (name_word_is entry i)
    ∙ ap (λ (w : ℕ). w / 256 ^ k % 256) (sym is)

-- eight letters more agree
pub agrees_more : (at : ℕ → ℕ) (name : List ℕ) (entry i word : ℕ) → Agrees at name entry (8 * i) → word ≡ at (name_word entry i)
    → ((k : ℕ) → k < 8 → 8 * i + k < length name → get_or name (8 * i + k) 0 ≡ word / 256 ^ k % 256) → Agrees at name entry (8 * (i + 1))
agrees_more at name entry i word a is same = record {
  len = a.len;
  letters = λ k low inside. by k inside low (cases_lt k (8 * i));
}
  where
    by : (k : ℕ) → k < length name → k < 8 * (i + 1) → (k < 8 * i) ⊎ (8 * i ≤ k) → get_or name k 0 ≡ byte_at at (name_word entry 0) k
    by k inside low (inl before) = a.letters k before inside
    by k inside low (inr from) =
        let j = k % 8 in
        let small : j < 8 = omega arith in
        let here : 8 * i + j ≡ k = omega arith in
        let within : 8 * i + j < length name = omega arith in
        ap (λ (n : ℕ). get_or name n 0) (sym here) ∙ same j small within ∙ sym (byte_of_word at entry i j word small is)
        ∙ ap (byte_at at (name_word entry 0)) here

-- the letters of an entry of this name are in its words
pub named_letters : (at : ℕ → ℕ) (name : List ℕ) (entry i word : ℕ) → name_at at entry ≡ name → word ≡ at (name_word entry i)
    → (k : ℕ) → k < 8 → 8 * i + k < length name → get_or name (8 * i + k) 0 ≡ word / 256 ^ k % 256
named_letters at name entry i word named is k low inside = named_letter at name entry (8 * i + k) named inside ∙ byte_of_word at entry i k word low is
