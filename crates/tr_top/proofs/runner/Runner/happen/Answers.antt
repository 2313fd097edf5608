use Rattle.std.proofs.Common.{ap, sym, subst, ◌∙◌, Err, Ok}
use Rattle.std.proofs.lemmas.Result.{err_from_is_err_and}
use Rattle.tr_types.specs.declared.entry.Entry.{Entry}
use Rattle.tr_core.specs.Core.{Adds, IsOfEvent, HappensAs}
use Rattle.tr_top.specs.Along.{MayFollow}
use Rattle.tr_top.specs.Running.{RunnerView, TellsEntry, place_of}
use Rattle.tr_top.proofs.AlongLemmas.{along_happens}
use Rattle.tr_top.proofs.RunLemmas.{goes_told, happens_not}
use Rattle.tr_top.proofs.runner.Runner.happen.Goals as goal

pub returns-in_err-event-clause-goes : goal.returns-in_err-event-clause-goes
returns-in_err-event-clause-goes g c =
    let v = c.self.view_is in
    let why = c.in_err-event.field-0.0 in
    let p = err_from_is_err_and c.from_residual.result c.from_residual.ensures.1 in
    happens_not c.args.self.now _ _ _ c.from_residual.result why (p.1 ∙ ap Err p.2) (ap (λ (r : RunnerView). r.lines) v) (ap (λ (r : RunnerView). r.detail) v) c.args.event.now c.requires.follows
    (subst (λ (r : RunnerView). HappensAs r.core c.event.new.self c.args.event.now (Err why)) v c.in_err-event.ensures)

pub invariant_of-self-2 : goal.invariant_of-self-2
invariant_of-self-2 g c =
    along_happens c.self.inside.script.now c.self.inside.core c.event.new.self c.args.event.now (Ok tt) c.self.invariant
    (subst (λ (r : RunnerView). (e : Entry) → IsOfEvent c.args.event.now e → MayFollow (place_of r) e) (sym c.self.view_is) c.requires.follows) c.in_ok-event.ensures

pub returns-clause-goes : goal.returns-clause-goes
returns-clause-goes g c =
    let v = c.self.view_is in
    let h = c.in_ok-event.ensures in
    let t = c.tell_last.ensures in
    goes_told c.tell_last.result c.args.self.now _ h.e _ _ _ _ (ap (λ (r : RunnerView). r.lines) v) (t.detail ∙ ap (λ (r : RunnerView). r.detail) v)
    (subst (λ (r : RunnerView). Adds r.core c.event.new.self h.e) v h.adds)
    (λ xs x is. subst (λ (r : RunnerView). TellsEntry r.detail c.tell_last.result x (g.O.Sink.written c.args.out.now) (g.O.Sink.written c.tell_last.new.out) (g.O.Sink.faults c.args.out.now) (g.O.Sink.faults c.tell_last.new.out)) v (t.told xs x is)) t.later
