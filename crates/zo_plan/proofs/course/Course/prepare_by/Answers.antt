use Rattle.std.proofs.Common.{◌∙◌, sym, ap, ◌∷◌}
use Rattle.zo_plan.specs.declared.course.Given.{Given}
use Rattle.zo_plan.specs.Stages.{left_at, given_early}
use Rattle.zo_plan.proofs.Courses.{store_next}
use Rattle.zo_plan.proofs.course.Course.prepare_by.Goals as goal

-- src/course.rt:119:5
pub returns-in-None : goal.returns-in-None
returns-in-None c =
    let deed = c.store.ensures in
    let next = c.behind.ensures in
    store_next c.args.self.now c.args.put c.args.given c.args.looked c.requires c.in-None.ensures
    ∙ ap (λ (g : Given). g.due ∷ left_at c.args.self.now g.next) (sym (c.early-in-None.ensures ∙ (λ i. given_early (deed i) (next i))))
