-- How a step leaves a call that goes on.
use Rattle.std.proofs.Common.{◌≡◌, sym, subst}
use Rattle.tr_types.specs.declared.action.Action.{Action}
use Rattle.tr_types.specs.declared.entry.Mark.{Mark}
use Rattle.zo_calls.specs.declared.caller.Caller.{Caller}
use Rattle.zo_calls.specs.declared.op.OpRun.{OpRun}
use Rattle.zo_calls.specs.declared.stage.Stage.{Stage}
use Rattle.zo_calls.specs.declared.step.OpStep.{OpStep}
use Rattle.zo_calls.specs.declared.step.OpStep.TheVariants as step
use Rattle.zo_calls.specs.Stages.{StageStands, Settles}

pub settles_at : (new : OpRun) (caller : Caller) (s : Stage) (result : OpStep) (action : Action) (mark : Mark) → new.caller ≡ caller → new.stage ≡ s
    → result ≡ step.Act action mark → StageStands caller s → Settles new result
settles_at new caller s result action mark same at is k =
    subst (λ (r : OpStep). Settles new r) (sym is)
    (subst (λ (c : Caller). StageStands c new.stage) (sym same) (subst (λ (x : Stage). StageStands caller x) (sym at) k))
