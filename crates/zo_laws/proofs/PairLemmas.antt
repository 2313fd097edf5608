-- The stores of a link as addresses and words, and the words that they leave.
use Rattle.std.proofs.Common.{◌≡◌, ◌≢◌, ◌⊎◌, inl, inr, ℕ, zero, suc, ◌+◌, ◌-◌, ◌*◌, ◌/◌, ◌%◌, ◌^◌, ◌<◌, ◌≤◌, min, List, [], ◌∷◌, ◌++◌, length, map, take, drop, slice_index, refl, sym, subst, ap, ap₂, ◌∙◌, arith}
use Rattle.std.proofs.lemmas.List.{ext_get_or, get_or-take, get_or-drop, length-take, length-drop}
use Rattle.std.proofs.lemmas.List.FromFn.{length-map-range_with_len, get_or-map-range_with_len}
use Rattle.std.proofs.lemmas.Bool.{cases_eq}
use Rattle.std.specs.List.{range_with_len}
use Rattle.zo_layout.specs.Layout.{word_of, entry_target, name_length, name_word, next_entry}
use Rattle.zo_model.specs.Commands.{IsName}
use Rattle.zo_model.specs.Directory.{byte_at, name_at}
use Rattle.zo_plan.specs.declared.plan.Operand.{Operand}
use Rattle.zo_plan.specs.declared.plan.Operand.TheVariants.{Known, Drawn}
use Rattle.zo_plan.specs.Operands.{real, word_behind, pairs_of}
use Rattle.zo_hash_dir.specs.Letters.{letters_word}
use Rattle.zo_hash_dir.specs.Links.{letters_put, entry_puts}
use Rattle.zo_hash_dir.proofs.LettersLemmas.{letter_at}
use Rattle.zo_model.specs.Steps.{put as put_at}
use Rattle.zo_laws.specs.Stores.{after_stores}
use Rattle.zo_laws.proofs.StoreLemmas.{Within, Aside, after_aside, after-append, after_last, put_here, put_other}

pub real_behind : (drawn : List ℕ) (o : Operand) (i : ℕ) → real drawn (word_behind o i) ≡ word_of (real drawn o) i
real_behind drawn (Known start) i = refl
real_behind drawn (Drawn page byte) i = omega arith

-- the letters of word i of a name
piece : List ℕ → ℕ → List ℕ
piece name i = take 8 (drop (8 * i) name)

name_pair : ℕ → List ℕ → ℕ → ℕ × ℕ
name_pair e name i = (name_word e i, letters_word (piece name i))

name_pairs : ℕ → List ℕ → ℕ → ℕ → List (ℕ × ℕ)
name_pairs e name first count = map (name_pair e name) (range_with_len first count)

-- the words of an entry, at an address
pub entry_pairs : ℕ → ℕ → ℕ → List ℕ → List (ℕ × ℕ)
entry_pairs e next target name = (e, next) ∷ (entry_target e, target) ∷ (name_length e, length name) ∷ name_pairs e name 0 ((length name + 7) / 8)

letters_are : (drawn : List ℕ) (entry : Operand) (name : List ℕ) (first count : ℕ) → pairs_of drawn (map (letters_put entry name) (range_with_len first count)) ≡ name_pairs (real drawn entry) name first count
unfolding piece name_pair name_pairs
letters_are drawn entry name first zero = refl
letters_are drawn entry name first (suc count) =
    ap₂ (λ (a : ℕ) (ps : List (ℕ × ℕ)). (a, letters_word (take 8 (drop (8 * first) name))) ∷ ps) (real_behind drawn entry (3 + first)) (letters_are drawn entry name (first + 1) count)

pub entry_are : (drawn : List ℕ) (entry : Operand) (next : ℕ) (target : Operand) (name : List ℕ) → pairs_of drawn (entry_puts entry next target name) ≡ entry_pairs (real drawn entry) next (real drawn target) name
unfolding entry_pairs
entry_are drawn entry next target name = λ i.
    (real drawn entry, next) ∷ (real_behind drawn entry 1 i, real drawn target) ∷ (real_behind drawn entry 2 i, length name) ∷ letters_are drawn entry name 0 ((length name + 7) / 8) i

-- addresses within a range, each that of a word
abbrev pub InRange : ℕ → ℕ → ℕ → Type 0
InRange from to a = (a % 8 ≡ 0) × (from ≤ a) × (a < to)

name_pairs_in : (e : ℕ) (name : List ℕ) (first count : ℕ) → e % 8 ≡ 0 → first + count ≤ 37 → Within (InRange e (e + 320)) (name_pairs e name first count)
unfolding name_pair name_pairs
name_pairs_in e name first zero aligned few = tt
name_pairs_in e name first (suc count) aligned few = ((omega arith, omega arith, omega arith), name_pairs_in e name (first + 1) count aligned (omega arith))

pub entry_in : (e next target : ℕ) (name : List ℕ) → e % 8 ≡ 0 → length name ≤ 255 → Within (InRange e (e + 320)) (entry_pairs e next target name)
unfolding entry_pairs
entry_in e next target name aligned short =
    ((aligned, omega arith, omega arith), ((omega arith, omega arith, omega arith), ((omega arith, omega arith, omega arith), name_pairs_in e name 0 ((length name + 7) / 8) aligned (omega arith))))

-- an address of a word outside of a range is none of its words
pub aside_range : (a from to addr : ℕ) → a % 8 ≡ 0 → (a < from) ⊎ (to ≤ a) → InRange from to addr → Aside a addr
aside_range a from to addr aligned (inl below) (at_8, low, high) = λ same. omega arith
aside_range a from to addr aligned (inr above) (at_8, low, high) = λ same. omega arith

-- what an entry's words say
pub record HasEntry (at : ℕ → ℕ) (entry next target : ℕ) (name : List ℕ) : Type 0 where
  pub leads : at (next_entry entry) ≡ next
  pub aims : at (entry_target entry) ≡ target
  pub named : name_at at entry ≡ name

-- the last words of a name are aside of an address before them
names_aside : (a e : ℕ) (name : List ℕ) (first count : ℕ) → e % 8 ≡ 0 → a % 8 ≡ 0 → a < name_word e first → Within (Aside a) (name_pairs e name first count)
unfolding name_pair name_pairs
names_aside a e name first zero aligned at_8 before = tt
names_aside a e name first (suc count) aligned at_8 before = ((λ same. omega arith), names_aside a e name (first + 1) count aligned at_8 (omega arith))

-- word j of a name
name_word_stored : (at : ℕ → ℕ) (e : ℕ) (name : List ℕ) (first count j : ℕ) → e % 8 ≡ 0 → first ≤ j → j < first + count → after_stores at (name_pairs e name first count) (name_word e j) ≡ letters_word (piece name j)
unfolding name_pair name_pairs
name_word_stored at e name first zero j aligned low high = absurd (omega arith)
name_word_stored at e name first (suc count) j aligned low high =
    by (cases_eq j first) (λ other. name_word_stored (put_at at (name_word e first) (letters_word (piece name first))) e name (first + 1) count j aligned (omega arith) (omega arith))
  where
    IsThere : ℕ → Type 0
    IsThere i = after_stores at (name_pairs e name first (suc count)) (name_word e i) ≡ letters_word (piece name i)

    by : (j ≡ first) ⊎ (j ≢ first) → ((j ≢ first) → IsThere j) → IsThere j
    by (inl same) later =
        subst IsThere (sym same)
        (after_last at [] (name_pairs e name (first + 1) count) (name_word e first) (letters_word (piece name first)) (names_aside (name_word e first) e name (first + 1) count aligned (omega arith) (omega arith)))
    by (inr other) later = later other

length_piece : (name : List ℕ) (j : ℕ) → length (piece name j) ≡ min 8 (length name - 8 * j)
unfolding piece
length_piece name j = length-take 8 (drop (8 * j) name) ∙ ap (min 8) (length-drop (8 * j) name)

piece_at : (name : List ℕ) (j k : ℕ) → k < 8 → slice_index (piece name j) k ≡ slice_index name (8 * j + k)
unfolding piece
piece_at name j k lt = get_or-take 8 (drop (8 * j) name) k 0 lt ∙ get_or-drop (8 * j) name k 0

-- letter k of a name, from the word that has it
letter_of_word : (name : List ℕ) → ((k : ℕ) → k < length name → slice_index name k < 256) → (k : ℕ) → k < length name → letters_word (piece name (k / 8)) / 256 ^ (k % 8) % 256 ≡ slice_index name k
letter_of_word name bytes k lt =
    let len = length_piece name (k / 8) in
    let within : k % 8 < length (piece name (k / 8)) = omega (arith, len) in
    let whole : 8 * (k / 8) + k % 8 ≡ k = omega arith in
    letter_at (piece name (k / 8)) (λ j below.
    let low : j < 8 = omega (arith, len) in
    let inside : 8 * (k / 8) + j < length name = omega (arith, len) in
    subst (λ (n : ℕ). n < 256) (sym (piece_at name (k / 8) j low)) (bytes (8 * (k / 8) + j) inside)) (k % 8) within
    ∙ piece_at name (k / 8) (k % 8) (omega arith)
    ∙ ap (slice_index name) whole

pub name_bytes : (name : List ℕ) → IsName name → (k : ℕ) → k < length name → slice_index name k < 256
name_bytes name is k low = omega (arith, (is.bytes k 0 low).1)

-- an entry whose words are stored, and stores aside of it behind
pub entry_stored : (at : ℕ → ℕ) (front behind : List (ℕ × ℕ)) (e next target : ℕ) (name : List ℕ) → e % 8 ≡ 0 → IsName name → ((a : ℕ) → InRange e (e + 320) a → Within (Aside a) behind)
    → HasEntry (after_stores at (front ++ entry_pairs e next target name ++ behind)) e next target name
unfolding entry_pairs
entry_stored at front behind e next target name aligned is aside =
    let count = (length name + 7) / 8 in
    let letters = name_pairs e name 0 count in
    let pairs = entry_pairs e next target name in
    let new = after_stores at (front ++ pairs ++ behind) in
    let start = after_stores at front in
    let begun = put_at (put_at (put_at start e next) (entry_target e) target) (name_length e) (length name) in
    let rest : new ≡ after_stores (after_stores begun letters) behind = after-append at (front ++ pairs) behind ∙ ap (λ (f : ℕ → ℕ). after_stores f behind) (after-append at front pairs) in
    let letters_aside = λ (a : ℕ) (at_8 : a % 8 ≡ 0) (before : a < e + 24). names_aside a e name 0 count aligned at_8 (omega arith) in
    let word = λ (a : ℕ) (in_range : InRange e (e + 320) a). ap (λ (f : ℕ → ℕ). f a) rest ∙ after_aside (after_stores begun letters) behind a (aside a in_range) in
    let early = λ (a : ℕ) (in_range : InRange e (e + 320) a) (before : a < e + 24). word a in_range ∙ after_aside begun letters a (letters_aside a in_range.0 before) in
    let len : new (name_length e) ≡ length name = early (name_length e) (omega arith, omega arith, omega arith) (omega arith) ∙ put_here (put_at (put_at start e next) (entry_target e) target) (name_length e) (length name) (name_length e) refl in
    let letter = λ (k : ℕ) (low : k < length name).
    let spot : word_of (name_word e 0) (k / 8) ≡ name_word e (k / 8) = omega arith in
    let short : length name ≤ 255 = is.short in
    ap (λ (a : ℕ). new a / 256 ^ (k % 8) % 256) spot
    ∙ ap (λ (w : ℕ). w / 256 ^ (k % 8) % 256) (word (name_word e (k / 8)) (omega arith, omega arith, omega arith) ∙ name_word_stored begun e name 0 count (k / 8) aligned (omega arith) (omega arith))
    ∙ letter_of_word name (name_bytes name is) k low in
    record {
      leads = early e (aligned, omega arith, omega arith) (omega arith)
          ∙ put_other (put_at (put_at start e next) (entry_target e) target) (name_length e) (length name) e (λ same. omega arith)
          ∙ put_other (put_at start e next) (entry_target e) target e (λ same. omega arith)
          ∙ put_here start e next e refl;
      aims = early (entry_target e) (omega arith, omega arith, omega arith) (omega arith)
          ∙ put_other (put_at (put_at start e next) (entry_target e) target) (name_length e) (length name) (entry_target e) (λ same. omega arith)
          ∙ put_here (put_at start e next) (entry_target e) target (entry_target e) refl;
      named = ap (λ (n : ℕ). map (byte_at new (name_word e 0)) (range_with_len 0 n)) len
          ∙ ext_get_or 0 (map (byte_at new (name_word e 0)) (range_with_len 0 (length name))) name (length-map-range_with_len (byte_at new (name_word e 0)) 0 (length name))
          (λ k low.
          let low' : k < length name = omega (arith, length-map-range_with_len (byte_at new (name_word e 0)) 0 (length name)) in
          get_or-map-range_with_len (byte_at new (name_word e 0)) 0 (length name) k k 0 low' (omega arith) ∙ letter k low');
    }
