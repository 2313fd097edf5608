use Rattle.std.proofs.Common.{◌≡◌, take}
use Rattle.pm_words.specs.Hash.{fnv64_of}
use Rattle.pm_words.proofs.fnv.fnv64.Given as goal

-- the hash of the bytes so far
abbrev pub invariant-loop-byte : goal.invariant-loop-byte
invariant-loop-byte l = l.hash ≡ fnv64_of (take l.byte-index l.bytes)
