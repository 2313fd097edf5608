use Rattle.std.proofs.Common.{ℕ, List, Option, sym, ap, ◌∙◌, subst, get_or}
use Rattle.std.specs.Prelude.{IsSome}
use Rattle.page_rights.specs.declared.mapping.Mapping.{Mapping}
use Rattle.page_rights.specs.Lookup.{process_at, mapping_at}
use Rattle.page_rights.proofs.TiedLemmas.{is_started, mapping_is}
use Rattle.page_rights.proofs.tables.Tables.mapping.Goals as goal

pub process_of-process-requires : goal.process_of-process-requires
process_of-process-requires c =
    subst (λ (p : List (Option ℕ)). IsSome (process_at p c.args.thread)) (sym c.deref-2.ensures.value)
    (is_started _ _ _ _ c.self.invariant _ _ c.self.view_is c.args.thread c.requires)

pub returns-clause-mapping : goal.returns-clause-mapping
returns-clause-mapping c =
    let process = ap (λ (p : List (Option ℕ)). process_at p c.args.thread) (sym c.deref-2.ensures.value) ∙ c.process_of-process.ensures in
    let owner = c.owner_of-id.ensures ∙ ap (λ (l : List ℕ). get_or l c.args.page 0) c.deref.ensures.value in
    let kept = ap (λ (l : List (Option Mapping)). mapping_at l c.process_of-process.result c.owner_of-id.result) c.deref-3.ensures.value in
    (mapping_is _ _ _ _ c.self.invariant _ _ c.self.view_is c.args.thread _ _ c.args.page _ process owner (λ le. c.mapping_at.ensures.inside le ∙ kept) c.mapping_at.ensures.past).0

pub returns-clause-key : goal.returns-clause-key
returns-clause-key c =
    let process = ap (λ (p : List (Option ℕ)). process_at p c.args.thread) (sym c.deref-2.ensures.value) ∙ c.process_of-process.ensures in
    let owner = c.owner_of-id.ensures ∙ ap (λ (l : List ℕ). get_or l c.args.page 0) c.deref.ensures.value in
    let kept = ap (λ (l : List (Option Mapping)). mapping_at l c.process_of-process.result c.owner_of-id.result) c.deref-3.ensures.value in
    (mapping_is _ _ _ _ c.self.invariant _ _ c.self.view_is c.args.thread _ _ c.args.page _ process owner (λ le. c.mapping_at.ensures.inside le ∙ kept) c.mapping_at.ensures.past).1
