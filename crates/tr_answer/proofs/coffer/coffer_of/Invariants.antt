use Rattle.std.proofs.Common.{◌≡◌, ◌<◌, length, drop, IfSome}
use Rattle.zo_model.specs.Coffers.{coffer_of}
use Rattle.tr_answer.specs.Contents.{coffer_at}
use Rattle.tr_answer.proofs.Deepest.{deepest_of}
use Rattle.tr_answer.proofs.coffer.coffer_of.Given as goal

abbrev pub invariant-loop-i : goal.invariant-loop-i
invariant-loop-i l = record {
  deepest : deepest_of (coffer_at l.coffers l.deepest) (coffer_of (drop l.i l.coffers) l.names) ≡ coffer_of l.coffers l.names;
  inside : IfSome l.deepest (λ at. at < length l.coffers);
}
