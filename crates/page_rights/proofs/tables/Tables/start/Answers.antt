use Rattle.std.proofs.Common.{ℕ, List, Some, sym, ap, ◌∙◌, subst, set}
use Rattle.kern_model.specs.Rights.{process_of}
use Rattle.page_rights.specs.Tables.{View}
use Rattle.page_rights.specs.Lookup.{TablesAgree}
use Rattle.page_rights.proofs.ChangeLemmas.{tied_started}
use Rattle.page_rights.proofs.tables.Tables.start.Goals as goal

pub invariant_of-self-2 : goal.invariant_of-self-2
invariant_of-self-2 c =
    let fresh = ap (λ (v : View). process_of v.threads c.args.thread) c.self.view_is ∙ c.requires.fresh in
    let tied = tied_started _ _ _ _ c.self.invariant c.args.thread c.args.process c.requires.thread c.requires.process fresh in
    subst (λ (k : ℕ). TablesAgree c.push.new.self.items (set c.self.inside.processes.items k (Some c.args.process)) c.self.inside.holders.items c.self.inside.mappings.items) (sym c.from.ensures)
    (subst (λ (l : List (ℕ × ℕ)). TablesAgree l (set c.self.inside.processes.items c.args.thread (Some c.args.process)) c.self.inside.holders.items c.self.inside.mappings.items)
    (sym c.in_ok-push.ensures.items) tied)
