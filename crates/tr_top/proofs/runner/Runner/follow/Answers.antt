use Rattle.std.proofs.Common.{sym, subst}
use Rattle.tr_types.specs.declared.permission.Cred.{Cred}
use Rattle.tr_script.specs.declared.script.Line.{Line}
use Rattle.tr_core.specs.Core.{IsHappened}
use Rattle.tr_core.specs.declared.event.FaultEvent.TheVariants as event
use Rattle.tr_top.specs.Running.{IsNextLine, Passes}
use Rattle.tr_top.proofs.RunLemmas.{on_ok, goes_then}
use Rattle.tr_top.proofs.LineLemmas.{passes_mkfs, passes_process, passes_thread, passes_call, passes_do, passes_stray, do_finishes}
use Rattle.tr_top.proofs.runner.Runner.follow.Goals as goal

pub returns-in-Mkfs-clause-passed : goal.returns-in-Mkfs-clause-passed
returns-in-Mkfs-clause-passed g c = λ below d next. on_ok c.happen.result c.happen.ensures.happened (λ h.
    subst (λ (l : Line). Passes c.happen.new.self l below d) (sym c.in-Mkfs.is)
    (passes_mkfs c.args.self.now c.happen.new.self c.in-Mkfs.pages below d c.happen.ensures.goes.lines h
    (subst (λ (l : Line). IsNextLine c.args.self.now l below d) c.in-Mkfs.is next)))

pub returns-in-Process-clause-passed : goal.returns-in-Process-clause-passed
returns-in-Process-clause-passed g c = λ below d next. on_ok c.happen-in-Process.result c.happen-in-Process.ensures.happened (λ h.
    subst (λ (l : Line). Passes c.happen-in-Process.new.self l below d) (sym c.in-Process.is)
    (passes_process c.args.self.now c.happen-in-Process.new.self c.in-Process.process c.in-Process.cred below d c.happen-in-Process.ensures.goes.lines
    (subst (λ (cred : Cred). IsHappened c.args.self.now.core c.happen-in-Process.new.self.core (event.Process c.in-Process.process cred)) c.get.ensures h)
    (subst (λ (l : Line). IsNextLine c.args.self.now l below d) c.in-Process.is next)))

pub returns-in-Thread-clause-passed : goal.returns-in-Thread-clause-passed
returns-in-Thread-clause-passed g c = λ below d next. on_ok c.happen-in-Thread.result c.happen-in-Thread.ensures.happened (λ h.
    subst (λ (l : Line). Passes c.happen-in-Thread.new.self l below d) (sym c.in-Thread.is)
    (passes_thread c.args.self.now c.happen-in-Thread.new.self c.in-Thread.thread c.in-Thread.process below d c.happen-in-Thread.ensures.goes.lines h
    (subst (λ (l : Line). IsNextLine c.args.self.now l below d) c.in-Thread.is next)))

pub returns-in-Call-clause-passed : goal.returns-in-Call-clause-passed
returns-in-Call-clause-passed g c = λ below d next. on_ok c.give.result c.give.ensures.added (λ adds.
    subst (λ (l : Line). Passes c.give.new.self l below d) (sym c.in-Call.is)
    (passes_call c.args.self.now c.give.new.self c.in-Call.thread c.in-Call.command below d c.give.ensures.goes.lines adds
    (subst (λ (l : Line). IsNextLine c.args.self.now l below d) c.in-Call.is next)))

pub returns-in_ok-give-in-Do-clause-goes : goal.returns-in_ok-give-in-Do-clause-goes
returns-in_ok-give-in-Do-clause-goes g c = goes_then c.finish.result c.args.self.now c.give-in-Do.new.self c.finish.new.self _ _ _ _ _ _ c.in_ok-give-in-Do.ensures.goes c.finish.ensures.goes

pub returns-in_ok-give-in-Do-clause-passed : goal.returns-in_ok-give-in-Do-clause-passed
returns-in_ok-give-in-Do-clause-passed g c = λ below d next.
    let given = c.in_ok-give-in-Do.ensures in
    let here = subst (λ (l : Line). IsNextLine c.args.self.now l below d) c.in-Do.is next in
    on_ok c.finish.result (c.finish.ensures.ended below (do_finishes c.args.self.now c.give-in-Do.new.self c.in-Do.thread c.in-Do.command below given.goes.lines given.added here.place)) (λ ended.
    subst (λ (l : Line). Passes c.finish.new.self l below d) (sym c.in-Do.is)
    (passes_do c.args.self.now c.give-in-Do.new.self c.finish.new.self c.in-Do.thread c.in-Do.command below d given.goes.lines given.added ended here))

pub returns-in-Stray-clause-passed : goal.returns-in-Stray-clause-passed
returns-in-Stray-clause-passed g c = λ below d next. on_ok c.happen-in-Stray.result c.happen-in-Stray.ensures.happened (λ h.
    subst (λ (l : Line). Passes c.happen-in-Stray.new.self l below d) (sym c.in-Stray.is)
    (passes_stray c.args.self.now c.happen-in-Stray.new.self c.in-Stray.thread c.in-Stray.addr c.in-Stray.word below d c.happen-in-Stray.ensures.goes.lines h
    (subst (λ (l : Line). IsNextLine c.args.self.now l below d) c.in-Stray.is next)))
