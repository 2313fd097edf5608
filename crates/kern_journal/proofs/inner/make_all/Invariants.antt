use Rattle.std.proofs.Common.{◌≡◌, length, take}
use Rattle.kern_model.specs.Inner.{made_all}
use Rattle.kern_journal.proofs.inner.make_all.Given as goal

abbrev pub invariant-loop-event : goal.invariant-loop-event
invariant-loop-event l = record { done : l.words ≡ made_all (take l.event-index l.events) l.initial.words; len : length l.words ≡ length l.initial.words }
