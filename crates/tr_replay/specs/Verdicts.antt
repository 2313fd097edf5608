-- What is settled of a call's reply, at the entries that can be its point, by the coffers as they stood there. Where the coffer
-- that the command consults was lost there, nothing is.
use Rattle.std.specs.Prelude.{List, [], ◌∷◌, Bool, true, false, Option, Some, None, if◌then◌else◌}
use Rattle.tr_types.specs.declared.action.Answer.{Answer}
use Rattle.tr_types.specs.declared.action.Answer.TheVariants.{Kern}
use Rattle.tr_types.specs.declared.command.Command.{Command}
use Rattle.tr_types.specs.declared.command.Reply.TheVariants as reply
use Rattle.tr_types.specs.declared.entry.Mark.{Mark}
use Rattle.tr_types.specs.declared.entry.Mark.TheVariants.{Check, Point}
use Rattle.tr_types.specs.declared.kernel_call.KernAnswer.TheVariants as kern
use Rattle.tr_types.specs.declared.permission.Cred.{Cred}
use Rattle.zo_model.specs.Coffers.{Coffer}
use Rattle.zo_model.specs.Answers.{Answered, Need, answer, consulted, is_denied, is_success, is_too_long, needs, path_of}
use Rattle.zo_model.specs.Legal.{Verdict, NoPoint, Unjudged, Fixed, is_lost, verdict_of}
use Rattle.zo_model.specs.Seats.{is_commit}

-- whether a command would have come about at an entry: no such entry was made; it was not judged there; it would, or would not
pub data Outlook : Type 0 where
  NotLooked : Outlook
  NotJudged : Outlook
  Would : (success : Bool) → Outlook

-- What is settled, for each way in which a reply can come to its point.
pub record Settled : Type 0 where
  -- where the call began
  pub begun : Verdict
  -- at its last Map that was refused a right, or whose coffer was shut off
  pub refused : Verdict
  -- at its last entry marked Point
  pub pointed : Verdict
  -- at its commit
  pub committed : Verdict
  -- at its last entry marked Check or Point
  pub looked : Outlook
  -- the same where it was refused pages
  pub short : Outlook
  -- the caller was refused the first right that the command needs, at each entry since the call
  pub barred : Bool

-- what the command is answered here
abbrev pub verdict_at : List Coffer → Cred → Command → Verdict
verdict_at coffers cred command = if is_lost (consulted coffers command) then Unjudged else verdict_of (answer coffers cred command)

-- a right is refused whether or not the coffer is lost
abbrev pub refusal_at : List Coffer → Cred → Command → Verdict
refusal_at coffers cred command = verdict_of (answer coffers cred command)

abbrev pub outlook_of : Option Answered → Outlook
outlook_of None = NotJudged
outlook_of (Some answered) = Would (is_success answered.reply)

abbrev pub outlook_at : List Coffer → Cred → Command → Outlook
outlook_at coffers cred command = if is_lost (consulted coffers command) then NotJudged else outlook_of (answer coffers cred command)

-- the caller is refused the first right that the command needs

abbrev pub is_first_denied : Cred → List Need → Bool
is_first_denied cred [] = false
is_first_denied cred (need ∷ needs) = is_denied cred need

abbrev pub is_barred : List Coffer → Cred → Command → Bool
is_barred coffers cred command = if is_too_long (path_of command) then false else is_first_denied cred (needs coffers command)

-- a call that begins here; only the length of its path can settle its reply
abbrev pub settled_at_call : List Coffer → Cred → Command → Settled
settled_at_call coffers cred command = record {
  begun = if is_too_long (path_of command) then Fixed reply.TooLong else NoPoint;
  refused = NoPoint;
  pointed = NoPoint;
  committed = NoPoint;
  looked = NotLooked;
  short = NotLooked;
  barred = is_barred coffers cred command;
}

-- the answers of the kernel that can settle a reply

abbrev pub is_refusal : Answer → Bool
is_refusal (Kern (kern.Denied right id len)) = true
is_refusal (Kern (kern.Quarantined id len)) = true
is_refusal answer = false

abbrev pub is_short : Answer → Bool
is_short (Kern (kern.NoPages asked free)) = true
is_short answer = false

abbrev pub is_point : Mark → Bool
is_point Point = true
is_point mark = false

abbrev pub is_look : Mark → Bool
is_look Check = true
is_look Point = true
is_look mark = false

-- The first commit counts. A point counts until the call loads a word of the tree again.
abbrev pub first_of : Verdict → Verdict → Verdict
first_of NoPoint new = new
first_of first new = first

abbrev pub pointed_after : Bool → Mark → Verdict → Verdict → Verdict
pointed_after tells_tree mark new old = if is_point mark then new else (if tells_tree then NoPoint else old)

-- what is settled after an action of the call, by the coffers before it; `tells_tree` says whether it loads a word of the tree
abbrev pub settled_after : Bool → List Coffer → Cred → Command → Mark → Answer → Settled → Settled
settled_after tells_tree coffers cred command mark answer s = record {
  begun = s.begun;
  refused = if is_refusal answer then refusal_at coffers cred command else s.refused;
  pointed = pointed_after tells_tree mark (verdict_at coffers cred command) s.pointed;
  committed = if is_commit mark answer then first_of s.committed (verdict_at coffers cred command) else s.committed;
  looked = if is_look mark then outlook_at coffers cred command else s.looked;
  short = if is_short answer then s.looked else s.short;
  barred = s.barred;
}

-- every entry tells whether the caller is barred still, by the coffers after it
abbrev pub still_barred : List Coffer → Cred → Command → Settled → Settled
still_barred coffers cred command s = record {
  begun = s.begun;
  refused = s.refused;
  pointed = s.pointed;
  committed = s.committed;
  looked = s.looked;
  short = s.short;
  barred = if s.barred then is_barred coffers cred command else false;
}
