-- The parts of a text between separators.
use Rattle.std.proofs.Common.{◌≡◌, ℕ, List, [], ◌∷◌, ◌++◌, map, flat_map, Bool, true, not, eqb, refl, ap, ◌∙◌}
use Rattle.std.proofs.lemmas.Bool.{and_parts, eq-eqb, not-true}
use Rattle.std.proofs.lemmas.List.{append-nil}
use Rattle.std.proofs.lemmas.List.Splits.{slice_split-cons_yes, slice_split-cons_no}
use Rattle.std.specs.List.{list_all, onto_first, AllByRecursion}
use Rattle.tr_text.specs.Text.{then_words}
use Rattle.tr_text.proofs.Reading.{parts_at}

-- a byte isn't in a text
abbrev pub lacks : ℕ → List ℕ → Bool
lacks separator text = list_all (λ byte. not (eqb byte separator)) text

pub part_before : (separator : ℕ) (text rest : List ℕ) → lacks separator text ≡ true → parts_at separator (text ++ separator ∷ rest) ≡ text ∷ parts_at separator rest
part_before separator [] rest free = slice_split-cons_yes (λ byte. eqb byte separator) separator rest (eq-eqb separator separator refl)
part_before separator (byte ∷ text) rest free =
    let parts = and_parts (not (eqb byte separator)) (lacks separator text) free in
    slice_split-cons_no (λ b. eqb b separator) byte (text ++ separator ∷ rest) (not-true (eqb byte separator) parts.0)
    ∙ ap (onto_first byte) (part_before separator text rest parts.1)

pub one_part : (separator : ℕ) (text : List ℕ) → lacks separator text ≡ true → parts_at separator text ≡ text ∷ []
one_part separator [] free = refl
one_part separator (byte ∷ text) free =
    let parts = and_parts (not (eqb byte separator)) (lacks separator text) free in
    slice_split-cons_no (λ b. eqb b separator) byte text (not-true (eqb byte separator) parts.0) ∙ ap (onto_first byte) (one_part separator text parts.1)

-- what stands between separators is found again
pub joined_parts : {A : Type 0} (separator : ℕ) (f : A → List ℕ) (first : A) (rest : List A) → lacks separator (f first) ≡ true → AllByRecursion (λ a. lacks separator (f a) ≡ true) rest
    → parts_at separator (f first ++ flat_map (λ a. separator ∷ f a) rest) ≡ map f (first ∷ rest)
joined_parts separator f first [] free others = ap (parts_at separator) (append-nil (f first)) ∙ one_part separator (f first) free
joined_parts separator f first (next ∷ rest) free others =
    part_before separator (f first) (f next ++ flat_map (λ a. separator ∷ f a) rest) free
    ∙ ap (λ (parts : List (List ℕ)). f first ∷ parts) (joined_parts separator f next rest others.0 others.1)

same_words : (words : List (List ℕ)) → map (λ w. w) words ≡ words
same_words [] = refl
same_words (word ∷ words) = ap (λ (ws : List (List ℕ)). word ∷ ws) (same_words words)

-- the words of a line
pub words_of_line : (first : List ℕ) (rest : List (List ℕ)) → lacks 32 first ≡ true → AllByRecursion (λ w. lacks 32 w ≡ true) rest → parts_at 32 (first ++ then_words rest) ≡ first ∷ rest
words_of_line first rest free others = joined_parts 32 (λ w. w) first rest free others ∙ same_words (first ∷ rest)
