-- What is bad behind a word that was taken, and words that name another.
use Rattle.std.proofs.Common.{◌≡◌, ◌≢◌, inl, inr, ℕ, ◌+◌, ◌^◌, ◌<◌, List, [], ◌∷◌, map, Contains, zero, suc, Bool, true, false, not, ◌||◌, ◌==◌, nat_eq, ap, refl, Result, Ok, Err, ◌∙◌, sym, subst, arith, Option, Some, None}
use Rattle.std.proofs.lemmas.Bool.{eqb-true, eq-eqb}
use Rattle.std.proofs.lemmas.Fmt.{decimal_injective}
use Rattle.std.specs.List.{list_any}
use Rattle.std.specs.Option.{option_eq}
use Rattle.std.specs.Fmt.{decimal}
use Rattle.tr_script.specs.Grammar.{Declared, words_of}
use Rattle.tr_script.specs.Places.{Slot, MayBe, MayBegin, slots_behind, IsBadAt}
use Rattle.tr_script.specs.Reading.{OnBad, Left, Takes, IsBadOf, words_left, next_column, first_text}
use Rattle.tr_script.specs.declared.reader.slots.First.{First}
use Rattle.tr_script.specs.declared.reader.slots.First.TheVariants as first
use Rattle.tr_script.specs.declared.reader.place.Fault.{Fault}
use Rattle.tr_script.specs.declared.reader.place.Fault.TheVariants.{Bad, NoMemory}
use Rattle.tr_script.specs.declared.reader.place.Place.{Place}
use Rattle.tr_script.proofs.PieceLemmas.{words_of_some}

-- what is bad behind a word that may stand is bad with it
pub behind : (place : Place) (d : Declared) (slot : Slot) (slots : List Slot) (left after : Left) {word : List ℕ} → Takes left word after → MayBe d slot word
    → IsBadOf d (slots_behind slot word slots) after place → IsBadOf d (slot ∷ slots) left place
behind place d slot slots left after {word} takes may bad =
    let at = subst (λ (column : ℕ). IsBadAt d (slots_behind slot word slots) after.words column place.column) takes.1 bad.1 in
    (bad.0 ∙ takes.2, subst (λ (words : List (List ℕ)). IsBadAt d (slot ∷ slots) words left.column place.column) (sym takes.0) (inr (may, at)))

pub on_bad_map : {T : Type 0} {P Q : Place → Type 0} (r : Result T Fault) → ((place : Place) → P place → Q place) → OnBad r P → OnBad r Q
on_bad_map (Ok x) f p = tt
on_bad_map (Err (Bad place)) f p = f place p
on_bad_map (Err NoMemory) f p = tt

-- a word behind a letter names one process or thread
pub one_name : (letter m n : ℕ) (word : List ℕ) → m < 256 → n < 256 → word ≡ letter ∷ decimal (m + 1) → word ≡ letter ∷ decimal (n + 1) → m ≡ n
one_name letter m n word small_m small_n named other =
    let digits : decimal (m + 1) ≡ decimal (n + 1) = cc in
    let next = decimal_injective (m + 1) (n + 1) (omega arith) (omega arith) digits in
    omega arith

-- a word is one number
pub one_number : (m n : ℕ) (word : List ℕ) → m < 2 ^ 64 → n < 2 ^ 64 → word ≡ decimal m → word ≡ decimal n → m ≡ n
one_number m n word small_m small_n is other = decimal_injective m n (omega arith) (omega arith) (sym is ∙ other)

-- a word that is left is one too many
pub not_at_end : (d : Declared) (left : Left) (place : Place) (r : Option (List ℕ)) (rest : List ℕ) → r ≡ Some rest
    → record { words = words_left r; column = next_column r place.column; line = place.line } ≡ left
    → (place.line ≡ left.line) × IsBadAt d [] left.words left.column place.column
not_at_end d left place None rest is view = absurd (let no : None ≡ Some rest = is in cc)
not_at_end d left place (Some found) rest is view =
    subst (λ (l : Left). (place.line ≡ l.line) × IsBadAt d [] l.words l.column place.column) view (refl, surplus (words_of found) (words_of_some found))
  where
    surplus : (words : List (List ℕ)) → (words ≡ [] → ⊥) → IsBadAt d [] words place.column place.column
    surplus [] none = none refl
    surplus (word ∷ words) none = refl

-- a word that is no first word begins no line
pub no_opening : (d : Declared) (word : List ℕ) → ((first : First) → word ≢ first_text first) → MayBegin d word → ⊥
no_opening d word none (inl mkfs) = none first.Mkfs mkfs.0
no_opening d word none (inr (inl (inl is, begun))) = none first.Process is
no_opening d word none (inr (inl (inr (inl is), begun))) = none first.Thread is
no_opening d word none (inr (inl (inr (inr (inl is)), begun))) = none first.Finish is
no_opening d word none (inr (inl (inr (inr (inr (inl is))), begun))) = none first.Open is
no_opening d word none (inr (inl (inr (inr (inr (inr (inl is)))), begun))) = none first.Stray is
no_opening d word none (inr (inl (inr (inr (inr (inr (inr none_of)))), begun))) = none_of
no_opening d word none (inr (inr (inl is, begun, free))) = none first.Call is
no_opening d word none (inr (inr (inr (inl is), begun, free))) = none first.Do is
no_opening d word none (inr (inr (inr (inr none_of), begun, free))) = none_of

-- a thread is one of the threads where the search finds it
pub found_among : (threads : List (ℕ × ℕ)) (thread : ℕ) → list_any (λ t. t.0 == thread) threads ≡ true → Contains (map (λ t. t.0) threads) thread
found_among [] thread found = absurd (let no : false ≡ true = found in cc)
found_among (t ∷ threads) thread found = by (t.0 == thread) refl found (found_among threads thread)
  where
    by : (b : Bool) → (t.0 == thread) ≡ b → (b || list_any (λ t. t.0 == thread) threads) ≡ true
        → (list_any (λ t. t.0 == thread) threads ≡ true → Contains (map (λ t. t.0) threads) thread) → Contains (map (λ t. t.0) (t ∷ threads)) thread
    by true is found rest = (0, omega arith, eqb-true t.0 thread is)
    by false is found rest = let behind = rest found in (suc behind.0, (let low = behind.1 in omega arith), behind.2)

pub among_found : (threads : List (ℕ × ℕ)) (thread : ℕ) → Contains (map (λ t. t.0) threads) thread → list_any (λ t. t.0 == thread) threads ≡ true
among_found [] thread (k, low, is) = absurd (omega arith)
among_found (t ∷ threads) thread (zero, low, is) = ap (λ (b : Bool). b || list_any (λ t. t.0 == thread) threads) (eq-eqb t.0 thread is)
among_found (t ∷ threads) thread (suc k, low, is) = by (t.0 == thread) (among_found threads thread (k, (let below = low in omega arith), is))
  where
    by : (b : Bool) → list_any (λ t. t.0 == thread) threads ≡ true → (b || list_any (λ t. t.0 == thread) threads) ≡ true
    by true found = refl
    by false found = found

-- the thread whose call is open
pub same_caller : (calling : Option ℕ) (thread : ℕ) → not (option_eq nat_eq calling (Some thread)) ≡ false → calling ≡ Some thread
same_caller None thread same = absurd (let no : true ≡ false = same in cc)
same_caller (Some caller) thread same = ap Some (eqb-true caller thread (by (nat_eq caller thread) same))
  where
    by : (b : Bool) → not b ≡ false → b ≡ true
    by true is = refl
    by false is = absurd (let no : true ≡ false = is in cc)
