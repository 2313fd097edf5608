-- A source and a sink over memory, as their callers see them, and what one call makes of each.
use Rattle.std.specs.Prelude.{ℕ, ◌-◌, ◌==◌, ◌&&◌, ◌||◌, Bool, List, ◌++◌, length, take, drop, nat_lt, if◌then◌else◌}
use Rattle.std.specs.List.{list_any}
use Rattle.tr_outside.specs.Causes.{one_more}

-- a source: the bytes to come, the numbers of the calls that fail, the calls made, the faults counted
pub record SourceState : Type 0 where
  pub left : List ℕ
  pub fails : List ℕ
  pub calls : ℕ
  pub faults : ℕ

-- a sink: the bytes that it took, how many more fit, and the rest as for a source
pub record SinkState : Type 0 where
  pub written : List ℕ
  pub room : ℕ
  pub fails : List ℕ
  pub calls : ℕ
  pub faults : ℕ

-- calls are numbered from 1, so the next call after `calls` of them is one of those that fail
abbrev pub fails_next : List ℕ → ℕ → Bool
fails_next fails calls = list_any (λ number. number == one_more calls) fails

-- a read into a buffer of `size` bytes: a call that fails takes nothing and counts
abbrev pub after_read : SourceState → ℕ → SourceState
after_read s size =
    if fails_next s.fails s.calls then record { left = s.left; fails = s.fails; calls = one_more s.calls; faults = one_more s.faults }
    else record { left = drop size s.left; fails = s.fails; calls = one_more s.calls; faults = s.faults }

-- what that read leaves in the buffer
abbrev pub read_into : SourceState → List ℕ → List ℕ
read_into s buffer =
    if fails_next s.fails s.calls then buffer else take (length buffer) s.left ++ drop (length s.left) buffer

-- a write fails where its number does, and where no byte of a piece that has some fits
abbrev pub write_fails : SinkState → List ℕ → Bool
write_fails s piece = fails_next s.fails s.calls || (s.room == 0 && nat_lt 0 (length piece))

-- a write takes what still fits; one that fails takes nothing and counts
abbrev pub after_write : SinkState → List ℕ → SinkState
after_write s piece =
    if write_fails s piece then record { written = s.written; room = s.room; fails = s.fails; calls = one_more s.calls; faults = one_more s.faults }
    else record { written = s.written ++ take s.room piece; room = s.room - length piece; fails = s.fails; calls = one_more s.calls; faults = s.faults }
