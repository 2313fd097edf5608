use Rattle.std.proofs.Common.{List, [], refl, sym, subst, take}
use Rattle.pm_words.specs.Word.{Word}
use Rattle.pm_words.specs.Crash.{MayLeave}
use Rattle.pm_words.proofs.CrashLemmas.{crash_leaves}
use Rattle.kern_model.specs.Inner.{made_all}
use Rattle.kern_model.specs.Inner.{journal_events}
use Rattle.kern_model.proofs.CrashLemmas.{crash_anywhere}
use Rattle.kern_journal.proofs.tests.cut.Goals as goal

pub returns-clause-readable : goal.returns-clause-readable
returns-clause-readable c =
    let left : MayLeave (made_all (take c.args.k (journal_events c.args.pairs.now)) c.args.words.now) c.crash.new.self =
    subst (λ (words : List Word). MayLeave words c.crash.new.self) c.in_ok-apply_first.ensures.ok
    (subst (λ (words : List Word). MayLeave c.apply_first.new.words words) (sym c.crash.ensures.words) (crash_leaves c.args.pick c.apply_first.new.words)) in
    (crash_anywhere c.args.words.now c.args.pairs.now c.args.k [] c.crash.new.self c.crash.new.self c.requires left refl).0
