use Rattle.std.proofs.Common.{◌≤◌, ◌-◌, length, take}
use Rattle.std.specs.Io.KnownBytes.{Appends}
use Rattle.tr_outside.specs.ImageBytes.{image_bytes}
use Rattle.tr_outside.proofs.image.write_image.Given as goal

abbrev pub invariant-loop-at : goal.invariant-loop-at
invariant-loop-at g l = record {
  within : l.at ≤ length l.words;
  taken : Appends (g.D.Sink.written l.initial.sink) (g.D.Sink.written l.sink) (image_bytes (take l.at l.words));
  later : g.D.Sink.faults l.initial.sink ≤ g.D.Sink.faults l.sink;
}

abbrev pub decreases-loop-at : goal.decreases-loop-at
decreases-loop-at g l = length l.words - l.at
