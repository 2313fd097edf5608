use Rattle.std.proofs.Common.{List, Option, None, ap, ◌∙◌, get_or, length}
use Rattle.std.proofs.lemmas.List.{with_items_is}
use Rattle.page_rights.specs.declared.mapping.Mapping.{Mapping}
use Rattle.page_rights.proofs.ChangeLemmas.{tied_without_coffer}
use Rattle.page_rights.proofs.AnswerLemmas.{same_tied}
use Rattle.page_rights.proofs.tables.Tables.drop_coffer.Goals as goal

pub invariant_of-self : goal.invariant_of-self
invariant_of-self c =
    let mappings = with_items_is c.self.inside.mappings c.drop_coffer-2.new.mappings (c.drop_coffer-2.auto.mappings ∙ c.deref_mut.ensures.len) in
    same_tied _ _ _ _ _ _ c.drop_coffer.ensures mappings
    (tied_without_coffer _ _ _ _ c.self.invariant c.drop_coffer-2.new.mappings
    (c.drop_coffer-2.ensures.len ∙ ap (λ (l : List (Option Mapping)). length l) c.deref_mut.ensures.value)
    c.args.id c.drop_coffer-2.ensures.gone (λ k ne. c.drop_coffer-2.ensures.others k ne ∙ ap (λ (l : List (Option Mapping)). get_or l k None) c.deref_mut.ensures.value))
