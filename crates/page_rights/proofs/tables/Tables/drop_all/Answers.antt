use Rattle.std.proofs.Common.{ℕ, ◌<◌, List, Option, ap, sym, subst, ◌∙◌, length}
use Rattle.std.proofs.lemmas.List.{with_items_is}
use Rattle.page_rights.specs.declared.mapping.Mapping.{Mapping}
use Rattle.page_rights.proofs.ChangeLemmas.{tied_cleared}
use Rattle.page_rights.proofs.AnswerLemmas.{same_tied}
use Rattle.page_rights.proofs.tables.Tables.drop_all.Goals as goal

pub invariant_of-self : goal.invariant_of-self
invariant_of-self c =
    let mappings = with_items_is c.self.inside.mappings c.drop_all.new.mappings (c.drop_all.auto.mappings ∙ c.deref_mut.ensures.len) in
    let old = ap (λ (l : List (Option Mapping)). length l) c.deref_mut.ensures.value in
    same_tied _ _ _ _ _ _ c.clear.ensures.items mappings
    (tied_cleared _ _ _ _ c.self.invariant c.drop_all.new.mappings (c.drop_all.ensures.len ∙ old)
    (λ k lt. c.drop_all.ensures.gone k (subst (λ (n : ℕ). k < n) (sym old) lt)))
