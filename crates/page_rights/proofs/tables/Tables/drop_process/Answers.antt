use Rattle.std.proofs.Common.{ℕ, List, Option, None, ap, ◌∙◌, get_or, length}
use Rattle.std.proofs.lemmas.List.{with_items_is}
use Rattle.page_rights.specs.declared.mapping.Mapping.{Mapping}
use Rattle.page_rights.specs.Tables.{View, process_dropped}
use Rattle.page_rights.specs.Lookup.{without_process_in}
use Rattle.page_rights.proofs.ChangeLemmas.{tied_without_process}
use Rattle.page_rights.proofs.AnswerLemmas.{same_tied, same_process_rows}
use Rattle.page_rights.proofs.tables.Tables.drop_process.Goals as goal

pub invariant_of-self : goal.invariant_of-self
invariant_of-self c =
    let rows = c.drop_process.ensures ∙ ap (λ (p : List (Option ℕ)). without_process_in p c.args.process c.self.inside.holders.items) c.deref.ensures.value in
    let mappings = with_items_is c.self.inside.mappings c.drop_process-2.new.mappings (c.drop_process-2.auto.mappings ∙ c.deref_mut.ensures.len) in
    same_tied _ _ _ _ _ _ rows mappings
    (tied_without_process _ _ _ _ c.self.invariant c.drop_process-2.new.mappings
    (c.drop_process-2.ensures.len ∙ ap (λ (l : List (Option Mapping)). length l) c.deref_mut.ensures.value)
    c.args.process c.drop_process-2.ensures.gone (λ k ne. c.drop_process-2.ensures.others k ne ∙ ap (λ (l : List (Option Mapping)). get_or l k None) c.deref_mut.ensures.value))

pub returns-clause-after : goal.returns-clause-after
returns-clause-after c =
    let rows = c.drop_process.ensures
    ∙ ap (λ (p : List (Option ℕ)). without_process_in p c.args.process c.self.inside.holders.items) c.deref.ensures.value
    ∙ same_process_rows c.self.inside.threads.items c.self.inside.processes.items c.args.process c.self.inside.holders.items c.self.invariant.starts in
    (λ i. record { threads = c.self.inside.threads.items; holders = rows i; owners = c.self.inside.owners.items }) ∙ ap (λ (v : View). process_dropped c.args.process v) c.self.view_is
