-- What a call gives, whatever it is answered: it loads, stores, and asks the kernel for one page or two of its coffer;
-- only a store is marked as its commit.
use Rattle.std.specs.Prelude.{◌≡◌, ◌≤◌}
use Rattle.tr_types.specs.declared.action.Action.{Action}
use Rattle.tr_types.specs.declared.action.Action.TheVariants.{Load, Store, Kernel}
use Rattle.tr_types.specs.declared.kernel_call.Kcall.TheVariants.{Enlarge}
use Rattle.tr_types.specs.declared.kernel_call.Mapped.{Mapped}
use Rattle.zo_model.specs.Steps.{MayMark}
use Rattle.zo_ops.specs.declared.op.OpStep.{OpStep}
use Rattle.zo_ops.specs.declared.op.OpStep.TheVariants as step

abbrev pub IsAction : Mapped → Action → Type 0
IsAction mapped (Load addr) = Unit {0}
IsAction mapped (Store addr word) = Unit {0}
IsAction mapped (Kernel (Enlarge id count)) = (id ≡ mapped.id) × (1 ≤ count) × (count ≤ 2)
IsAction mapped action = ⊥

abbrev pub IsStep : Mapped → OpStep → Type 0
IsStep mapped (step.Act action mark) = IsAction mapped action × MayMark mark action
IsStep mapped (step.Over reply) = Unit {0}
