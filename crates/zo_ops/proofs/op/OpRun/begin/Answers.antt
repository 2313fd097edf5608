use Rattle.std.proofs.Common.{refl, sym, subst}
use Rattle.zo_ops.specs.declared.op.Stage.{Stage}
use Rattle.zo_ops.specs.Knows.{StageKnows}
use Rattle.zo_ops.proofs.SeenLaws.{some_root}
use Rattle.zo_ops.proofs.op.OpRun.begin.Goals as goal
use Rattle.zo_ops.proofs.op.OpRun.begin.Goals.{in-Some+in_ok-stage-in-Some, in-None}

pub returns-clause-knows : goal.returns-clause-knows
returns-clause-knows c = λ first s k.
    elim c.match-of_page.branch [
      | in-Some+in_ok-stage-in-Some w ↦
          subst (λ (stage : Stage). StageKnows c.args.mapped c.args.command.now stage first s) (sym w.stage-is)
          (w.in_ok-stage-in-Some.ensures c.args.mapped w.in-Some.ensures refl first s k)
      | in-None w ↦ absurd (some_root c.args.mapped c.args.command.now s k.0 w.in-None.ensures)
    ]
