-- The least thread that stands against a map, over the holders so far.
use Rattle.std.proofs.Common.{◌≡◌, ℕ, ◌+◌, ◌<◌, List, [], ◌∷◌, ◌++◌, Bool, true, false, length, get_or, map, take, ap, sym, subst, ◌∙◌, cond, Option, Some, append-nil}
use Rattle.std.specs.Prelude.{filter}
use Rattle.std.proofs.lemmas.List.{map_push}
use Rattle.std.proofs.lemmas.List.Elements.{filter_more}
use Rattle.tr_types.specs.declared.kernel_call.Holder.{Holder}
use Rattle.kern_model.specs.Rights.{stands_against, those_against}
use Rattle.page_rights.specs.Lookup.{lesser, IsLeast}
use Rattle.page_rights.proofs.RowLemmas.{least_more}

module _ (thread id : ℕ) (exclusive : Bool) (holders : List Holder) (i : ℕ) (d : Holder) (inside : i < length holders) (least : Option ℕ) (so_far : IsLeast (those_against thread id exclusive (take i holders)) least) where
  test : Holder → Bool
  test h = stands_against thread id exclusive h

  further : (b : Bool) → stands_against thread id exclusive (get_or holders i d) ≡ b
      → those_against thread id exclusive (take (i + 1) holders)
      ≡ map (λ (h : Holder). h.thread) (filter (stands_against thread id exclusive) (take i holders) ++ cond b (get_or holders i d ∷ []) [])
  further b is =
      ap (λ (hs : List Holder). map (λ (h : Holder). h.thread) hs) (filter_more (stands_against thread id exclusive) holders i d inside)
      ∙ ap (λ (c : Bool). map (λ (h : Holder). h.thread) (filter (stands_against thread id exclusive) (take i holders) ++ cond c (get_or holders i d ∷ []) [])) is

  pub one_more : (now : Option ℕ) → stands_against thread id exclusive (get_or holders i d) ≡ true → now ≡ Some (lesser least (get_or holders i d).thread) → IsLeast (those_against thread id exclusive (take (i + 1) holders)) now
  one_more now is same =
      subst (IsLeast (those_against thread id exclusive (take (i + 1) holders))) (sym same)
      (subst (λ (ts : List ℕ). IsLeast ts (Some (lesser least (get_or holders i d).thread)))
      (sym (further true is ∙ map_push (λ (h : Holder). h.thread) (filter (stands_against thread id exclusive) (take i holders)) (get_or holders i d)))
      (least_more least (those_against thread id exclusive (take i holders)) (get_or holders i d).thread so_far))

  pub no_more : (now : Option ℕ) → stands_against thread id exclusive (get_or holders i d) ≡ false → now ≡ least → IsLeast (those_against thread id exclusive (take (i + 1) holders)) now
  no_more now is same =
      subst (IsLeast (those_against thread id exclusive (take (i + 1) holders))) (sym same)
      (subst (λ (ts : List ℕ). IsLeast ts least)
      (sym (further false is ∙ ap (λ (hs : List Holder). map (λ (h : Holder). h.thread) hs) (append-nil (filter (stands_against thread id exclusive) (take i holders)))))
      so_far)
