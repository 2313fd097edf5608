use Rattle.std.proofs.Common.{◌≡◌, ◌++◌, flat_map, take}
use Rattle.tr_text.specs.Spelling as spec
use Rattle.tr_text.proofs.words.append_data.Given as goal

abbrev pub invariant-loop-byte : goal.invariant-loop-byte
invariant-loop-byte l = l.text.items ≡ l.initial.text.items ++ flat_map spec.hex_byte (take l.byte-index l.bytes)
