use Rattle.std.proofs.Common.{◌≡◌, drop}
use Rattle.tr_types.specs.Paths as paths
use Rattle.tr_answer.proofs.Walked.{walked}
use Rattle.tr_answer.proofs.names.names_of.Given as goal

abbrev pub invariant-loop-byte : goal.invariant-loop-byte
invariant-loop-byte l = walked l.names l.name.items (drop l.byte-index l.path) ≡ paths.names_of l.path
