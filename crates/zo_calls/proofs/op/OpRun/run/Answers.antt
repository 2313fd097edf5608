use Rattle.std.proofs.Common.{◌≡◌, sym, subst, ◌∙◌}
use Rattle.zo_plan.specs.declared.run.Step.{Step}
use Rattle.zo_calls.specs.declared.step.OpStep.{OpStep}
use Rattle.zo_calls.specs.Acts.{IsStep}
use Rattle.zo_calls.proofs.Runs.{StepMay, run_may}
use Rattle.zo_calls.proofs.op.OpRun.run.Goals as goal

pub returns-in-Act-clause-acts : goal.returns-in-Act-clause-acts
returns-in-Act-clause-acts c =
    let may = subst (λ (s : Step). StepMay c.args.self.now.caller s) (sym c.next.ensures.step ∙ c.in-Act.is) (run_may c.args.self.now.caller c.args.running.run c.args.answer.now c.args.now c.requires.marked) in
    subst (λ (r : OpStep). IsStep c.args.self.now.caller r) (sym c.go_changing.ensures.step) may
