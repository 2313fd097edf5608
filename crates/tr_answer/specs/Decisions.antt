-- What the program's decisions stand for, and what is read of an answer.
use Rattle.std.specs.Prelude.{◌≡◌, ℕ, List, [], slice_get, false, Result, Ok, Err, Option, Some, None, if◌then◌else◌}
use Rattle.std.specs.Borrow.{Bor}
use Rattle.std.specs.Option.{option_map}
use Rattle.tr_types.specs.declared.command.Command.{Command}
use Rattle.tr_types.specs.declared.command.Reply.{Reply}
use Rattle.tr_types.specs.declared.command.Reply.TheVariants as reply
use Rattle.tr_types.specs.declared.permission.Cred.{Cred}
use Rattle.tr_types.specs.declared.permission.Perm.{Perm}
use Rattle.zo_model.specs.Answers.{Answered, told, grown, founded, answer_by}
use Rattle.zo_model.specs.Coffers as spec
use Rattle.zo_model.specs.Tree.{Member, Directory, FileOf}
use Rattle.tr_answer.specs.declared.decision.Decision.{Decision}
use Rattle.tr_answer.specs.declared.decision.Decision.TheVariants as decided

-- the reply, and the coffers after it: those before it where nothing is promised
abbrev pub reply_in : Option Answered → Option Reply
reply_in None = None
reply_in (Some answered) = Some answered.reply

abbrev pub coffers_after : List spec.Coffer → Option Answered → List spec.Coffer
coffers_after coffers None = coffers
coffers_after coffers (Some answered) = answered.coffers

-- the coffers with an empty file made in one of them
abbrev pub grown_by : List spec.Coffer → List (List ℕ) → spec.Coffer → spec.Content → List spec.Coffer
grown_by coffers names coffer (spec.Ready tree) = grown coffers coffer tree names (FileOf [])
grown_by coffers names coffer spec.Lost = coffers
grown_by coffers names coffer spec.Quarantined = coffers

abbrev pub grown_in : List spec.Coffer → List (List ℕ) → Option spec.Coffer → List spec.Coffer
grown_in coffers names None = coffers
grown_in coffers names (Some coffer) = grown_by coffers names coffer coffer.content

abbrev pub answered_by : List spec.Coffer → Decision → Option Answered
answered_by coffers (decided.Told reply) = option_map (told coffers) reply
answered_by coffers (decided.Grows at names) = Some (record { reply = reply.Made; coffers = grown_in coffers names (slice_get coffers at) })
answered_by coffers (decided.Founds path perm) = Some (record { reply = reply.Made; coffers = founded coffers path perm (FileOf []) })

-- what a command is answered by the tree of the coffer that it consults, or without it
abbrev pub opened_by : List spec.Coffer → Cred → Command → spec.Coffer → Result (Bor (List Member)) (Option Reply) → Option Answered
opened_by coffers cred command coffer (Ok tree) = Some (answer_by coffers cred command coffer tree.now)
opened_by coffers cred command coffer (Err reply) = option_map (told coffers) reply

-- what the caller is told, if anything; else this
abbrev pub unless_told : List spec.Coffer → Option Reply → Answered → Answered
unless_told coffers None answered = answered
unless_told coffers (Some reply) answered = told coffers reply

-- a coffer that is to be founded has a path that no coffer has
abbrev pub IsFresh : List spec.Coffer → Decision → Type 0
IsFresh coffers (decided.Founds path perm) = spec.is_coffer coffers path ≡ false
IsFresh coffers decision = Unit {0}

-- the coffers with a new one of this path, unless one has it
abbrev pub with_coffer : List spec.Coffer → List (List ℕ) → Perm → List spec.Coffer
with_coffer coffers names perm = if spec.is_coffer coffers names then coffers else founded coffers names perm Directory
