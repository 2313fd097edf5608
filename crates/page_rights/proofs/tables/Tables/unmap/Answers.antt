use Rattle.std.proofs.Common.{◌≡◌, ◌<◌, ◌≤◌, ℕ, List, Option, sym, ap, ◌∙◌, length, set, arith}
use Rattle.std.proofs.lemmas.List.{with_items_is}
use Rattle.tr_types.specs.declared.kernel_call.Holder.{Holder}
use Rattle.kern_model.specs.KernelCalls.{holds_any}
use Rattle.page_rights.specs.declared.mapping.Mapping.{Mapping}
use Rattle.page_rights.specs.Tables.{View}
use Rattle.page_rights.specs.Lookup.{process_at, place_of, mapping_of}
use Rattle.page_rights.proofs.OneRow.{own_bound}
use Rattle.page_rights.proofs.ChangeLemmas.{tied_unmapped}
use Rattle.page_rights.proofs.AnswerLemmas.{same_tied, nothing_unmapped}
use Rattle.page_rights.proofs.tables.Tables.unmap.Goals as goal

pub returns-then-not-holds_any-clause-after : goal.returns-then-not-holds_any-clause-after
returns-then-not-holds_any-clause-after c =
    nothing_unmapped _ c.self.inside.holders.items (ap (λ (v : View). v.holders) c.self.view_is) c.args.thread c.args.id
    (ap (λ (hs : List Holder). holds_any c.args.thread c.args.id hs) (sym c.deref.ensures.value) ∙ sym c.holds_any.ensures ∙ c.if-not-holds_any.true)

pub look_up-requires : goal.look_up-requires
look_up-requires c =
    let holds = ap (λ (hs : List Holder). holds_any c.args.thread c.args.id hs) (sym c.deref.ensures.value) ∙ sym c.holds_any.ensures ∙ c.if-not-holds_any.false in
    let bound : c.args.id ≤ 256 = own_bound c.args.thread c.args.id c.self.inside.holders.items c.self.invariant.rows holds in
    let process = ap (λ (p : List (Option ℕ)). process_at p c.args.thread) (sym c.deref-2.ensures.value) ∙ c.process_of-process.ensures in
    let small : c.process_of-process.result < 64 = c.self.invariant.small c.args.thread c.process_of-process.result process in
    let places : length c.deref_mut.result.now ≡ 16448 = ap (λ (l : List (Option Mapping)). length l) c.deref_mut.ensures.value ∙ c.self.invariant.places in
    omega arith

pub invariant_of-self : goal.invariant_of-self
invariant_of-self c =
    let holds = ap (λ (hs : List Holder). holds_any c.args.thread c.args.id hs) (sym c.deref.ensures.value) ∙ sym c.holds_any.ensures ∙ c.if-not-holds_any.false in
    let bound : c.args.id ≤ 256 = own_bound c.args.thread c.args.id c.self.inside.holders.items c.self.invariant.rows holds in
    let process = ap (λ (p : List (Option ℕ)). process_at p c.args.thread) (sym c.deref-2.ensures.value) ∙ c.process_of-process.ensures in
    let rows = c.drop_row.ensures.items in
    let mappings = with_items_is c.self.inside.mappings c.look_up.new.mappings (c.look_up.auto.mappings ∙ c.deref_mut.ensures.len)
    ∙ c.look_up.ensures
    ∙ (λ i. set (c.deref_mut.ensures.value i) (place_of c.process_of-process.result c.args.id) (mapping_of (c.deref-3.ensures.value i) ((c.deref-4.ensures.value ∙ rows) i) c.process_of-process.result c.args.id)) in
    same_tied _ _ _ _ _ _ rows mappings (tied_unmapped _ _ _ _ c.self.invariant c.args.thread c.args.id c.process_of-process.result process bound)
