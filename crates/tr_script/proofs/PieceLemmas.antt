-- The lines of a text and the words of a line, where the first separator stands.
use Rattle.std.proofs.Common.{◌≡◌, ℕ, zero, suc, ◌+◌, ◌<◌, ◌≤◌, Bool, true, false, cond, ◌==◌, List, [], ◌∷◌, length, take, drop, slice_index, arith, refl, ap, ◌∙◌, add-one, ◌-◌, length-drop, take_all}
use Rattle.std.proofs.lemmas.Bool.{cond-true, cond-false, false_from_ne_true}
use Rattle.tr_script.specs.Grammar.{in_front, lines_of, words_of}

-- no byte below this place is the separator
abbrev pub NoneBelow : ℕ → List ℕ → ℕ → Type 0
NoneBelow separator text end = (k : ℕ) → 0 ≤ k → k < end → (slice_index text k == separator) ≡ true → ⊥

none_in_rest : (separator byte : ℕ) (text : List ℕ) (end : ℕ) → NoneBelow separator (byte ∷ text) (suc end) → NoneBelow separator text end
none_in_rest separator byte text end none k low high = none (suc k) (omega arith) (omega arith)

pub words_of_first : (line : List ℕ) (end : ℕ) → end < length line → NoneBelow 32 line end → (slice_index line end == 32) ≡ true
    → words_of line ≡ take end line ∷ words_of (drop (suc end) line)
words_of_first [] end inside none found = absurd (omega arith)
words_of_first (byte ∷ line) zero inside none found = cond-true (byte == 32) _ _ found
words_of_first (byte ∷ line) (suc end) inside none found =
    cond-false (byte == 32) _ _ (false_from_ne_true (byte == 32) (none 0 (omega arith) (omega arith)))
    ∙ ap (in_front byte) (words_of_first line end (omega arith) (none_in_rest 32 byte line end none) found)

pub words_of_last : (line : List ℕ) → NoneBelow 32 line (length line) → words_of line ≡ line ∷ []
words_of_last [] none = refl
words_of_last (byte ∷ line) none =
    cond-false (byte == 32) _ _ (false_from_ne_true (byte == 32) (none 0 (omega arith) (omega arith)))
    ∙ ap (in_front byte) (words_of_last line (none_in_rest 32 byte line (length line) none))

pub lines_of_first : (text : List ℕ) (end : ℕ) → end < length text → NoneBelow 10 text end → (slice_index text end == 10) ≡ true
    → lines_of text ≡ take end text ∷ lines_of (drop (suc end) text)
lines_of_first [] end inside none found = absurd (omega arith)
lines_of_first (byte ∷ text) zero inside none found = cond-true (byte == 10) _ _ found
lines_of_first (byte ∷ text) (suc end) inside none found =
    cond-false (byte == 10) _ _ (false_from_ne_true (byte == 10) (none 0 (omega arith) (omega arith)))
    ∙ ap (in_front byte) (lines_of_first text end (omega arith) (none_in_rest 10 byte text end none) found)

pub lines_of_last : (text : List ℕ) → 0 < length text → NoneBelow 10 text (length text) → lines_of text ≡ text ∷ []
lines_of_last [] some none = absurd (omega arith)
lines_of_last (byte ∷ []) some none =
    cond-false (byte == 10) _ _ (false_from_ne_true (byte == 10) (none 0 (omega arith) (omega arith)))
lines_of_last (byte ∷ next ∷ text) some none =
    cond-false (byte == 10) _ _ (false_from_ne_true (byte == 10) (none 0 (omega arith) (omega arith)))
    ∙ ap (in_front byte) (lines_of_last (next ∷ text) (omega arith) (none_in_rest 10 byte (next ∷ text) (length (next ∷ text)) none))

-- what a slice from behind a place to the end holds
pub after_is : (text : List ℕ) (end : ℕ) → take (length text - (end + 1)) (drop (end + 1) text) ≡ drop (suc end) text
after_is text end = take_all (length text - (end + 1)) (drop (end + 1) text) (omega (arith, length-drop (end + 1) text)) ∙ ap (λ (n : ℕ). drop n text) (add-one end)

in_front_some : (byte : ℕ) (pieces : List (List ℕ)) → in_front byte pieces ≡ [] → ⊥
in_front_some byte [] none = cc
in_front_some byte (piece ∷ pieces) none = cc

-- each line has a word
pub words_of_some : (line : List ℕ) → words_of line ≡ [] → ⊥
words_of_some [] none = cc
words_of_some (byte ∷ line) none = by (byte == 32) none
  where
    by : (space : Bool) → cond space ([] ∷ words_of line) (in_front byte (words_of line)) ≡ [] → ⊥
    by true is = cc
    by false is = in_front_some byte (words_of line) is
