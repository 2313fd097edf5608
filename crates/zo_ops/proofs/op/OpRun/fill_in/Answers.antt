use Rattle.std.proofs.Common.{◌≤◌, ℕ, ◌∷◌, List, length, sym, ap, subst, ◌∙◌}
use Rattle.zo_plan.specs.declared.plan.Operand.TheVariants.{Known, Drawn}
use Rattle.zo_plan.specs.declared.plan.Put.{Put}
use Rattle.zo_plan.specs.StoreRuns.{Running, stores_of}
use Rattle.zo_hash_dir.specs.Links.{link_puts}
use Rattle.zo_ops.proofs.FillLaws.{is_name, fill_knows}
use Rattle.zo_ops.proofs.op.OpRun.fill_in.Goals as goal

pub returns-clause-gives : goal.returns-clause-gives
returns-clause-gives c = λ is s k.
    let short : length c.name_of.result.now ≤ 255 = subst (λ (n : List ℕ). length n ≤ 255) (sym c.name_of.ensures) (is_name c.args.command.now k.lacks.create k.call.can_be).short in
    let prepares = c.in_ok-plan.ensures.prepares
    ∙ ap (λ (l : List Put). record { at = Drawn c.entry_pages.result 0; word = Known 1 } ∷ l) (c.in_ok-link.ensures.prepares short)
    ∙ ap (λ e. record { at = Drawn e 0; word = Known 1 } ∷ link_puts c.args.dir.at c.args.place c.name_of.result.now (Drawn e 0)) c.entry_pages.ensures in
    let left = ap (λ (r : Running). r.left) c.begin-run.ensures ∙ ap (λ (d : List ℕ). stores_of d c.in_ok-plan.plan) c.in_ok-from_slice.ensures.items in
    c.store.ensures.gives c.args.command.now s
    (fill_knows c.args.self.now.mapped c.args.command.now c.args.place c.args.pages.now c.args.dir.at c.name_of.result.now c.in_ok-plan.plan c.begin-run.result is c.name_of.ensures prepares
    (c.in_ok-plan.ensures.commit ∙ c.in_ok-link.ensures.commit) (c.in_ok-plan.ensures.after ∙ c.in_ok-link.ensures.after) left s k)
