use Rattle.std.proofs.Common.{◌-◌}
use Rattle.kern_model.specs.KernelView.{pages_of}
use Rattle.kern_model.specs.Journal.{kernel_word}
use Rattle.kern_roots.proofs.ReadingChains.{IsWalk}
use Rattle.kern_roots.proofs.reading.fronts.coffer_at.Given as goal

abbrev pub invariant-loop-step : goal.invariant-loop-step
invariant-loop-step l = IsWalk (pages_of l.words) (kernel_word l.words) l.path (257 - l._step) l.next
