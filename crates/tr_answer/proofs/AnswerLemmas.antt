-- What `stat` is answered, by the coffer of its path, and the counts of names in a directory.
use Rattle.std.proofs.Common.{◌≡◌, ℕ, ◌+◌, ◌≤◌, List, [], ◌∷◌, ◌++◌, length, filter, ◌==◌, ◌&&◌, Bool, true, false, cond, Option, Some, sym, ap, ◌∙◌, arith}
use Rattle.std.proofs.lemmas.Bool.{cond-false}
use Rattle.tr_types.specs.Paths.{names_of}
use Rattle.tr_types.specs.declared.command.Command.TheVariants.{Stat}
use Rattle.tr_types.specs.declared.command.Kind.TheVariants.{Dir}
use Rattle.tr_types.specs.declared.command.Reply.{Reply}
use Rattle.tr_types.specs.declared.command.Reply.TheVariants.{Info, TooLong}
use Rattle.tr_types.specs.declared.permission.Cred.{Cred}
use Rattle.tr_types.specs.declared.permission.Perm.{Perm}
use Rattle.zo_model.specs.Answers.{Answered, is_too_long, need_of, read_right, answer_at, answer, told, Reaches, walk, names_in, state_of}
use Rattle.zo_model.specs.Coffers.{Coffer, lies_in, coffer_of, within, coffers_under}
use Rattle.zo_model.specs.Tree.{Member, Directory, is_child}
use Rattle.tr_answer.proofs.CofferLemmas.{goes_on}

pub stat_is : (coffers : List Coffer) (cred : Cred) (path : List ℕ) (names : List (List ℕ)) (coffer : Coffer) (answered : Option Answered)
    → is_too_long path ≡ false → names ≡ names_of path → coffer_of coffers names ≡ Some coffer
    → answered ≡ answer_at coffers cred (Stat path) (record { right = read_right; coffer = coffer } ∷ []) → answered ≡ answer coffers cred (Stat path)
stat_is coffers cred path names coffer answered short are found is =
    let At : Option Coffer → Option Answered = λ o. answer_at coffers cred (Stat path) (need_of read_right o) in
    let here : coffer_of coffers (names_of path) ≡ Some coffer = sym (ap (coffer_of coffers) are) ∙ found in
    is ∙ sym (cond-false (is_too_long path) (Some (told coffers TooLong)) (At (coffer_of coffers (names_of path))) short ∙ ap At here)

pub few_filtered : {X : Type 0} (p : X → Bool) (xs : List X) → length (filter p xs) ≤ length xs
few_filtered p [] = omega arith
few_filtered p (x ∷ xs) = by (p x) (few_filtered p xs)
  where
    by : (b : Bool) → length (filter p xs) ≤ length xs → length (cond b (x ∷ filter p xs) (filter p xs)) ≤ length (x ∷ xs)
    by true le = omega arith
    by false le = omega arith

pub few_under : (coffers : List Coffer) (names : List (List ℕ)) → coffers_under coffers names ≤ length coffers
few_under coffers names = few_filtered (λ (c : Coffer). (length c.path == length names + 1) && lies_in c.path names) coffers

-- the state of a directory that the walk reaches, with the counts as the program finds them
pub dir_state : (coffers : List Coffer) (coffer : Coffer) (perm : Perm) (tree : List Member) (names inner : List (List ℕ)) (children under : ℕ)
    → lies_in names coffer.path ≡ true → perm ≡ coffer.perm → inner ≡ within coffer names → Reaches Directory ≡ walk tree [] inner
    → children ≡ length (filter (is_child inner) tree) → under ≡ coffers_under coffers names
    → Info Dir (children + under) perm.uid perm.gid perm.mode ≡ state_of coffers coffer tree (within coffer names) (walk tree [] (within coffer names))
dir_state coffers coffer perm tree names inner children under inside perm_is inner_is reached children_is under_is =
    let State : Perm → ℕ → Reply = λ p n. Info Dir n p.uid p.gid p.mode in
    let At : List (List ℕ) → Reply = λ i. state_of coffers coffer tree i (walk tree [] i) in
    let count : children + under ≡ names_in coffers coffer tree inner =
    (λ i. children_is i + under_is i)
    ∙ ap (λ (n : List (List ℕ)). length (filter (is_child inner) tree) + coffers_under coffers n) (sym (ap (λ (i : List (List ℕ)). coffer.path ++ i) inner_is ∙ goes_on names coffer.path inside))
    in
    (λ i. State (perm_is i) (count i)) ∙ (ap (state_of coffers coffer tree inner) reached ∙ ap At inner_is)
