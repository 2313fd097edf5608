use Rattle.std.proofs.Common.{ℕ, sym, subst, length, get_or}
use Rattle.std.proofs.lemmas.List.Elements.{All-get_or}
use Rattle.kern_model.specs.declared.inner.Inner.TheVariants.{Store}
use Rattle.kern_model.specs.Inner.{HasAddress}
use Rattle.kern_journal.proofs.inner.make_all.Goals as goal

pub make-requires : goal.make-requires
make-requires c =
    subst (λ (n : ℕ). HasAddress n (get_or c.args.events.now c.loop-event.event-index (Store 0 0))) (sym c.loop-event.invariant.len)
    (All-get_or (HasAddress (length c.args.words.now)) c.args.events.now c.loop-event.event-index (Store 0 0) c.loop-event-test.true c.requires)
