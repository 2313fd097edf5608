use Rattle.std.proofs.Common.{ap, sym, subst, ◌∙◌, Err, Ok}
use Rattle.std.proofs.lemmas.Result.{err_from_is_err_and}
use Rattle.tr_types.specs.declared.command.Command.{Command}
use Rattle.tr_types.specs.declared.entry.Entry.TheVariants as entry
use Rattle.tr_core.specs.Core.{Adds, GivesAs}
use Rattle.tr_top.specs.Along.{MayFollow}
use Rattle.tr_top.specs.Running.{RunnerView, TellsEntry, Goes, place_of}
use Rattle.tr_top.proofs.AlongLemmas.{along_gives}
use Rattle.tr_top.proofs.RunLemmas.{goes_told, goes_nowhere_at, gives_not}
use Rattle.tr_top.proofs.runner.Runner.give.Goals as goal

pub returns-in_err-copy-clause-goes : goal.returns-in_err-copy-clause-goes
returns-in_err-copy-clause-goes g c =
    let p = err_from_is_err_and c.from_residual.result c.from_residual.ensures.1 in
    subst (λ (r : RunnerView). Goes c.args.self.now r (g.O.Sink.written c.args.out.now) (g.O.Sink.written c.args.out.now) (g.O.Sink.faults c.args.out.now) (g.O.Sink.faults c.args.out.now) c.from_residual.result) (sym c.self.view_is)
    (goes_nowhere_at c.from_residual.result p.0 c.args.self.now _ _ p.1 p.2)

pub returns-in_err-give-clause-goes : goal.returns-in_err-give-clause-goes
returns-in_err-give-clause-goes g c =
    let v = c.self.view_is in
    let why = c.in_err-give.field-0.0 in
    let p = err_from_is_err_and c.from_residual-in_err-give.result c.from_residual-in_err-give.ensures.1 in
    let given : GivesAs c.self.inside.core c.give.new.self c.args.thread c.in_ok-copy.field-0 (Err why) = c.in_err-give.ensures in
    gives_not c.args.self.now _ _ _ c.from_residual-in_err-give.result why (p.1 ∙ ap Err p.2) (ap (λ (r : RunnerView). r.lines) v) (ap (λ (r : RunnerView). r.detail) v) c.args.thread c.args.command.now c.requires.follows
    (subst (λ (r : RunnerView). GivesAs r.core c.give.new.self c.args.thread c.args.command.now (Err why)) v
    (subst (λ (x : Command). GivesAs c.self.inside.core c.give.new.self c.args.thread x (Err why)) c.in_ok-copy.ensures given))

pub invariant_of-self-2 : goal.invariant_of-self-2
invariant_of-self-2 g c =
    let given : GivesAs c.self.inside.core c.give.new.self c.args.thread c.in_ok-copy.field-0 (Ok tt) = c.in_ok-give.ensures in
    along_gives c.self.inside.script.now c.self.inside.core c.give.new.self c.args.thread c.args.command.now (Ok tt) c.self.invariant
    (subst (λ (r : RunnerView). MayFollow (place_of r) (entry.Call c.args.thread c.args.command.now)) (sym c.self.view_is) c.requires.follows)
    (subst (λ (x : Command). GivesAs c.self.inside.core c.give.new.self c.args.thread x (Ok tt)) c.in_ok-copy.ensures given)

pub returns-clause-goes : goal.returns-clause-goes
returns-clause-goes g c =
    let v = c.self.view_is in
    let h = c.in_ok-give.ensures in
    let t = c.tell_last.ensures in
    goes_told c.tell_last.result c.args.self.now _ (entry.Call c.args.thread c.in_ok-copy.field-0) _ _ _ _ (ap (λ (r : RunnerView). r.lines) v) (t.detail ∙ ap (λ (r : RunnerView). r.detail) v)
    (subst (λ (r : RunnerView). Adds r.core c.give.new.self (entry.Call c.args.thread c.in_ok-copy.field-0)) v h.0)
    (λ xs x is. subst (λ (r : RunnerView). TellsEntry r.detail c.tell_last.result x (g.O.Sink.written c.args.out.now) (g.O.Sink.written c.tell_last.new.out) (g.O.Sink.faults c.args.out.now) (g.O.Sink.faults c.tell_last.new.out)) v (t.told xs x is)) t.later
