-- Coffers of which no two have one path, and what becomes of them.
use Rattle.std.proofs.Common.{◌≡◌, ℕ, zero, suc, ◌+◌, ◌<◌, List, [], ◌∷◌, ◌++◌, length, map, take, drop, get_or, set, slice_get, Bool, true, false, cond, Some, Result, Ok, Err, OnOk, OnErr, refl, sym, subst, ap, ◌∙◌}
use Rattle.std.specs.Cmp.Lexicographic.{bytes_decides, nat_list_eq_equiv}
use Rattle.std.specs.Cmp.{IsEquivalence}
use Rattle.std.specs.List.{AllByRecursion, IsDistinct, list_any}
use Rattle.std.proofs.lemmas.Bool.{cond-true, cond-false, or_parts, or_from}
use Rattle.std.proofs.lemmas.Cmp.{lists_equiv}
use Rattle.std.proofs.lemmas.List.{map-append}
use Rattle.std.proofs.lemmas.List.Edits.{map_over_more}
use Rattle.std.proofs.lemmas.Map.Keys.{IsDistinct-head, IsDistinct-tail, IsDistinct-push}
use Rattle.std.proofs.lemmas.Slice.Eq.{starts_is}
use Rattle.std.specs.declared.alloc.AllocError.{AllocError}
use Rattle.tr_types.specs.declared.permission.Perm.{Perm}
use Rattle.zo_model.specs.Answers.{founded}
use Rattle.zo_model.specs.Coffers.{Content, Ready, Lost, Quarantined, Coffer, lies_in, within, is_coffer, paths_of, with_tree}
use Rattle.zo_model.specs.Tree.{Member, Node, FileOf, same_names}
use Rattle.tr_answer.specs.Contents.{content_with_file, with_file, closed_coffer, with_content}
use Rattle.tr_answer.specs.Decisions.{grown_by, grown_in}

names_equiv : IsEquivalence same_names
names_equiv = lists_equiv nat_list_eq_equiv

-- a path that lies in another goes on after it
pub goes_on : (names front : List (List ℕ)) → lies_in names front ≡ true → front ++ drop (length front) names ≡ names
goes_on names front inside = sym ((starts_is bytes_decides names front (lies_in names front) refl).0 inside)

-- ---- paths

abbrev pub HasOwnPaths : List Coffer → Type 0
HasOwnPaths coffers = IsDistinct same_names (paths_of coffers)

pub one_path : (coffers : List Coffer) (coffer : Coffer) → coffers ≡ coffer ∷ [] → HasOwnPaths coffers
unfolding IsDistinct
one_path coffers coffer is = subst HasOwnPaths (sym is) (tt, tt)

no_path : (coffers : List Coffer) (names : List (List ℕ)) → is_coffer coffers names ≡ false → list_any (same_names names) (paths_of coffers) ≡ false
no_path [] names is = refl
no_path (coffer ∷ coffers) names is =
    let parts = or_parts (same_names coffer.path names) (is_coffer coffers names) is in
    or_from _ _ (names_equiv.symm names coffer.path ∙ parts.0) (no_path coffers names parts.1)

-- one more, of a path that none has
pub path_more : (coffers : List Coffer) (names : List (List ℕ)) (perm : Perm) (node : Node) → HasOwnPaths coffers → is_coffer coffers names ≡ false → HasOwnPaths (founded coffers names perm node)
path_more coffers names perm node own free =
    subst (IsDistinct same_names) (sym (map-append (λ (c : Coffer). c.path) coffers _)) (IsDistinct-push names_equiv (paths_of coffers) names own (no_path coffers names free))

pub path_put : (old new : List Coffer) (names : List (List ℕ)) (perm : Perm) (node : Node) (result : Result (Unit {0}) AllocError) → HasOwnPaths old → is_coffer old names ≡ false
    → OnOk result (new ≡ founded old names perm node) → OnErr result (new ≡ old) → HasOwnPaths new
path_put old new names perm node (Ok done) own free ok err = subst HasOwnPaths (sym ok) (path_more old names perm node own free)
path_put old new names perm node (Err error) own free ok err = subst HasOwnPaths (sym err) own

pub same_paths : (old new : List Coffer) → paths_of new ≡ paths_of old → HasOwnPaths old → HasOwnPaths new
same_paths old new is own = subst (IsDistinct same_names) (sym is) own

-- ---- a file more in one of them

none_else : (path : List (List ℕ)) (tree : List Member) (coffers : List Coffer) → AllByRecursion (λ other. same_names path other ≡ false) (paths_of coffers) → map (with_tree path tree) coffers ≡ coffers
none_else path tree [] others = refl
none_else path tree (coffer ∷ coffers) others =
    λ i. cond-false (same_names coffer.path path) (record { path = coffer.path; perm = coffer.perm; content = Ready tree }) coffer (names_equiv.symm coffer.path path ∙ others.0) i ∷ none_else path tree coffers others.1 i

other_path : (path : List (List ℕ)) (coffers : List Coffer) (at : ℕ) (coffer : Coffer) → AllByRecursion (λ other. same_names path other ≡ false) (paths_of coffers) → slice_get coffers at ≡ Some coffer → same_names path coffer.path ≡ false
other_path path [] at coffer others is = cc
other_path path (first ∷ coffers) zero coffer others is = let same : first ≡ coffer = cc in sym (ap (λ (c : Coffer). same_names path c.path) same) ∙ others.0
other_path path (first ∷ coffers) (suc at) coffer others is = other_path path coffers at coffer others.1 is

tree_at : (coffers : List Coffer) (at : ℕ) (coffer : Coffer) (tree : List Member) → HasOwnPaths coffers → slice_get coffers at ≡ Some coffer
    → map (with_tree coffer.path tree) coffers ≡ set coffers at (record { path = coffer.path; perm = coffer.perm; content = Ready tree })
tree_at [] at coffer tree own is = cc
tree_at (first ∷ coffers) zero coffer tree own is =
    let same : first ≡ coffer = cc in
    subst (λ (c : Coffer). map (with_tree c.path tree) (first ∷ coffers) ≡ record { path = c.path; perm = c.perm; content = Ready tree } ∷ coffers) same
    (λ i. cond-true (same_names first.path first.path) (record { path = first.path; perm = first.perm; content = Ready tree }) first (names_equiv.refl first.path) i
    ∷ none_else first.path tree coffers (IsDistinct-head same_names first.path (paths_of coffers) own) i)
tree_at (first ∷ coffers) (suc at) coffer tree own is =
    let apart = other_path first.path coffers at coffer (IsDistinct-head same_names first.path (paths_of coffers) own) is in
    λ i. cond-false (same_names first.path coffer.path) (record { path = first.path; perm = first.perm; content = Ready tree }) first apart i
    ∷ tree_at coffers at coffer tree (IsDistinct-tail same_names first.path (paths_of coffers) own) is i

pub set_same : (coffers : List Coffer) (at : ℕ) (coffer : Coffer) → slice_get coffers at ≡ Some coffer → set coffers at coffer ≡ coffers
set_same [] at coffer is = refl
set_same (first ∷ coffers) zero coffer is = let same : coffer ≡ first = cc in λ i. same i ∷ coffers
set_same (first ∷ coffers) (suc at) coffer is = λ i. first ∷ set_same coffers at coffer is i

pub grown_is : (coffers : List Coffer) (at : ℕ) (coffer : Coffer) (names : List (List ℕ)) → HasOwnPaths coffers → slice_get coffers at ≡ Some coffer
    → set coffers at (with_file coffer (within coffer names)) ≡ grown_in coffers names (slice_get coffers at)
grown_is coffers at coffer names own is = by coffer.content refl ∙ ap (grown_in coffers names) (sym is)
  where
    by : (content : Content) → coffer.content ≡ content → set coffers at (with_file coffer (within coffer names)) ≡ grown_by coffers names coffer coffer.content
    by (Ready tree) e =
        ap (λ (c : Content). set coffers at (record { path = coffer.path; perm = coffer.perm; content = content_with_file c (within coffer names) })) e
        ∙ (sym (tree_at coffers at coffer (tree ++ record { names = within coffer names; node = FileOf [] } ∷ []) own is)
        ∙ ap (grown_by coffers names coffer) (sym e))
    by Lost e =
        ap (set coffers at) (λ i. record { path = coffer.path; perm = coffer.perm; content = (ap (λ (c : Content). content_with_file c (within coffer names)) e ∙ sym e) i })
        ∙ (set_same coffers at coffer is ∙ ap (grown_by coffers names coffer) (sym e))
    by Quarantined e =
        ap (set coffers at) (λ i. record { path = coffer.path; perm = coffer.perm; content = (ap (λ (c : Content). content_with_file c (within coffer names)) e ∙ sym e) i })
        ∙ (set_same coffers at coffer is ∙ ap (grown_by coffers names coffer) (sym e))

pub grown_ok : (coffers : List Coffer) (at : ℕ) (coffer new : Coffer) (names inner : List (List ℕ)) (result : Result (Unit {0}) AllocError) → HasOwnPaths coffers → slice_get coffers at ≡ Some coffer
    → inner ≡ within coffer names → OnOk result (new ≡ with_file coffer inner) → OnOk result (set coffers at new ≡ grown_in coffers names (slice_get coffers at))
grown_ok coffers at coffer new names inner (Ok done) own is inner_is ok = ap (set coffers at) (ok ∙ ap (with_file coffer) inner_is) ∙ grown_is coffers at coffer names own is
grown_ok coffers at coffer new names inner (Err error) own is inner_is ok = ok

pub file_path : (coffer new : Coffer) (inner : List (List ℕ)) (result : Result (Unit {0}) AllocError) → OnOk result (new ≡ with_file coffer inner) → OnErr result (new ≡ coffer) → new.path ≡ coffer.path
file_path coffer new inner (Ok done) ok err = ap (λ (c : Coffer). c.path) ok
file_path coffer new inner (Err error) ok err = ap (λ (c : Coffer). c.path) err

pub paths_stay : (coffers : List Coffer) (at : ℕ) (coffer : Coffer) (new : Coffer) → slice_get coffers at ≡ Some coffer → new.path ≡ coffer.path → paths_of (set coffers at new) ≡ paths_of coffers
paths_stay [] at coffer new is path = refl
paths_stay (first ∷ coffers) zero coffer new is path = let same : coffer ≡ first = cc in λ i. (path ∙ ap (λ (c : Coffer). c.path) same) i ∷ paths_of coffers
paths_stay (first ∷ coffers) (suc at) coffer new is path = λ i. first.path ∷ paths_stay coffers at coffer new is path i

-- ---- those of one path closed

pub set_closed : (names : List (List ℕ)) (content : Content) (xs ys : List Coffer) (at : ℕ) (coffer : Coffer) → at < length xs
    → ys ≡ map (with_content names content) (take at xs) ++ drop at xs → coffer ≡ get_or ys at coffer
    → set ys at (with_content names content coffer) ≡ map (with_content names content) (take (at + 1) xs) ++ drop (at + 1) xs
set_closed names content xs ys at coffer lt is read = map_over_more (with_content names content) xs ys at coffer lt is read

pub paths_closed : (names : List (List ℕ)) (content : Content) (coffers : List Coffer) → paths_of (map (with_content names content) coffers) ≡ paths_of coffers
paths_closed names content [] = refl
paths_closed names content (coffer ∷ coffers) = λ i. by (same_names coffer.path names) i ∷ paths_closed names content coffers i
  where
    by : (b : Bool) → (cond b (closed_coffer content coffer) coffer).path ≡ coffer.path
    by true = refl
    by false = refl
