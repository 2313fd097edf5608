use Rattle.std.proofs.Common.{◌≡◌, ap, sym, subst, ◌∙◌, Err, Ok, Some, false, true}
use Rattle.std.proofs.lemmas.Result.{err_from_is_err_and}
use Rattle.tr_core.specs.Core.{due_at}
use Rattle.tr_top.specs.Along.{opens}
use Rattle.tr_top.specs.Running.{RunnerView, IsAlong}
use Rattle.tr_top.proofs.CallRuns.{has_call, same_mark, open_turned, open_calls, turned_then, opened_now}
use Rattle.tr_top.proofs.RunLemmas.{goes_on, goes_then}
use Rattle.tr_top.proofs.runner.Runner.open.Goals as goal

pub returns-in_err-turn-clause-goes : goal.returns-in_err-turn-clause-goes
returns-in_err-turn-clause-goes g c =
    let p = err_from_is_err_and c.from_residual.result c.from_residual.ensures.1 in
    goes_on c.from_residual.result c.in_err-turn.field-0.0 c.args.self.now c.loop-mark.self c.turn.new.self _ _ _ _ _ _ (p.1 ∙ ap Err p.2) c.loop-mark.invariant.goes c.in_err-turn.ensures.goes

pub returns-then-opens-clause-goes : goal.returns-then-opens-clause-goes
returns-then-opens-clause-goes g c = goes_then (Ok tt) c.args.self.now c.loop-mark.self c.turn.new.self _ _ _ _ _ _ c.loop-mark.invariant.goes c.in_ok-turn.ensures.goes

pub returns-then-opens-clause-opened : goal.returns-then-opens-clause-opened
returns-then-opens-clause-opened g c =
    let i = c.loop-mark.invariant in
    let t = c.in_ok-turn.ensures in
    let h = t.turned.1 in
    let along = subst (λ (r : RunnerView). IsAlong r.lines r.core) c.self.view_is c.self.invariant in
    let due = subst (λ (r : RunnerView). due_at r.core c.args.thread ≡ Some c.in-Some.mark) c.self.view_is (sym c.in-Some.ensures) in
    let lifts : opens h.mark ≡ true = ap opens (same_mark _ _ _ h.was_due due) ∙ sym c.opens.ensures ∙ c.if-opens.true in
    λ below at. opened_now c.loop-mark.self c.turn.new.self c.args.thread t.turned.0 t.goes.lines (has_call c.loop-mark.self c.args.thread h.mark along i.goes.works h.was_due) h c.args.self.now below lifts at i.place i.calls i.who

pub loop-mark-preserved : goal.loop-mark-preserved
loop-mark-preserved g c =
    let i = c.loop-mark.invariant in
    let t = c.in_ok-turn.ensures in
    let h = t.turned.1 in
    let along = subst (λ (r : RunnerView). IsAlong r.lines r.core) c.self.view_is c.self.invariant in
    let due = subst (λ (r : RunnerView). due_at r.core c.args.thread ≡ Some c.in-Some.mark) c.self.view_is (sym c.in-Some.ensures) in
    let shut : opens h.mark ≡ false = ap opens (same_mark _ _ _ h.was_due due) ∙ sym c.opens.ensures ∙ c.if-opens.false in
    let has = has_call c.loop-mark.self c.args.thread h.mark along i.goes.works h.was_due in
    record {
      goes = goes_then (Ok tt) c.args.self.now c.loop-mark.self c.turn.new.self _ _ _ _ _ _ i.goes t.goes;
      place = open_turned c.loop-mark.self c.turn.new.self c.args.thread t.turned.0 t.goes.lines has h c.args.self.now shut i.place;
      calls = open_calls c.loop-mark.self c.turn.new.self c.args.thread t.turned.0 t.goes.lines has h c.args.self.now i.calls;
      who = turned_then c.loop-mark.self c.turn.new.self c.args.thread t.turned.0 t.goes.lines has h c.args.self.now i.who;
    }
