-- What a trace shows.
use Rattle.std.specs.Prelude.{ℕ, List, slice_get, Option, Some, None}
use Rattle.tr_types.specs.declared.action.Answer.{Answer}
use Rattle.tr_types.specs.declared.entry.Entry.{Entry}
use Rattle.tr_types.specs.declared.entry.Entry.TheVariants.{Act}

-- what an entry's action was answered, where it is an action of a call
abbrev pub answer_in : Option Entry → Option Answer
answer_in (Some (Act thread now mark action answer)) = Some answer
answer_in e = None

-- the same of the entry at a position, counted from 0
abbrev pub answer_at : List Entry → ℕ → Option Answer
answer_at trace position = answer_in (slice_get trace position)
