use Rattle.std.proofs.Common.{ap, subst, ◌∙◌, Err, Ok}
use Rattle.std.proofs.lemmas.Result.{err_from_is_err_and}
use Rattle.tr_top.specs.Running.{RunnerView, IsAlong}
use Rattle.tr_top.proofs.CallRuns.{has_call, finish_turned, finish_calls, turned_then}
use Rattle.tr_top.proofs.RunLemmas.{goes_on, goes_then}
use Rattle.tr_top.proofs.runner.Runner.finish.Goals as goal

pub returns-in_err-turn-clause-goes : goal.returns-in_err-turn-clause-goes
returns-in_err-turn-clause-goes g c =
    let p = err_from_is_err_and c.from_residual.result c.from_residual.ensures.1 in
    goes_on c.from_residual.result c.in_err-turn.field-0.0 c.args.self.now c.loop-self.self c.turn.new.self _ _ _ _ _ _ (p.1 ∙ ap Err p.2) c.loop-self.invariant.goes c.in_err-turn.ensures.goes

pub loop-self-preserved : goal.loop-self-preserved
loop-self-preserved g c =
    let i = c.loop-self.invariant in
    let t = c.in_ok-turn.ensures in
    let h = t.turned.1 in
    let along = subst (λ (r : RunnerView). IsAlong r.lines r.core) c.self.view_is c.self.invariant in
    let has = has_call c.loop-self.self c.args.thread h.mark along i.goes.works h.was_due in
    record {
      goes = goes_then (Ok tt) c.args.self.now c.loop-self.self c.turn.new.self _ _ _ _ _ _ i.goes t.goes;
      place = finish_turned c.loop-self.self c.turn.new.self c.args.thread t.turned.0 t.goes.lines has h c.args.self.now i.place;
      calls = finish_calls c.loop-self.self c.turn.new.self c.args.thread t.turned.0 t.goes.lines has h c.args.self.now i.calls;
      who = turned_then c.loop-self.self c.turn.new.self c.args.thread t.turned.0 t.goes.lines has h c.args.self.now i.who;
    }
