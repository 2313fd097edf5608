use Rattle.std.proofs.Common.{Err, ap, ◌∙◌}
use Rattle.std.proofs.lemmas.Result.{err_from_is_err_and}
use Rattle.kern_model.specs.KernelRules.{IsFirstFault}
use Rattle.kern_calls.specs.declared.mount.MountFault.{MountFault}
use Rattle.bus_machine.proofs.Opened.{passed_refusal, passed_done}
use Rattle.bus_machine.proofs.machine.Machine.open.Goals as goal

pub returns-in_err-open-clause-refuses : goal.returns-in_err-open-clause-refuses
returns-in_err-open-clause-refuses c =
    let p = err_from_is_err_and c.from_residual.result c.from_residual.ensures.1 in
    passed_refusal c.in_err-open.field-0.0 c.from_residual.result (IsFirstFault c.args.words) (p.1 ∙ ap (λ (f : MountFault). Err f) p.2) c.in_err-open.ensures.refuses

pub returns-clause-refuses : goal.returns-clause-refuses
returns-clause-refuses c = passed_done c.in_ok-open.field-0 _ (IsFirstFault c.args.words) c.in_ok-open.ensures.refuses
