-- Why a call may give a reply that no tree decides: what its own actions have shown it.
use Rattle.std.specs.Prelude.{◌≡◌, ◌⊎◌, ℕ, ◌+◌, ◌/◌, ◌≤◌, List, [], ◌∷◌, map, Contains, Bool, true, false, not, Option, Some, None, if◌then◌else◌, ◌==◌, ◌&&◌, ◌||◌}
use Rattle.std.specs.List.{list_any}
use Rattle.zo_layout.specs.Layout.{page_at}
use Rattle.tr_types.specs.declared.action.Action.{Action}
use Rattle.tr_types.specs.declared.action.Action.TheVariants.{Load, Store, Cas, Kernel}
use Rattle.tr_types.specs.declared.action.Answer.{Answer}
use Rattle.tr_types.specs.declared.action.Answer.TheVariants.{Word as WordIs, Fault, Kern}
use Rattle.tr_types.specs.declared.command.Command.{Command}
use Rattle.tr_types.specs.declared.command.Command.TheVariants.{Create, Stat}
use Rattle.tr_types.specs.declared.command.Reply.{Reply}
use Rattle.tr_types.specs.declared.command.Reply.TheVariants as reply
use Rattle.tr_types.specs.declared.entry.Mark.{Mark}
use Rattle.tr_types.specs.declared.entry.Mark.TheVariants.{Check, Point}
use Rattle.tr_types.specs.declared.kernel_call.Kcall.TheVariants.{Enlarge}
use Rattle.tr_types.specs.declared.kernel_call.KernAnswer.{KernAnswer}
use Rattle.tr_types.specs.declared.kernel_call.KernAnswer.TheVariants as kern
use Rattle.zo_model.specs.Answers.{consulted}
use Rattle.zo_model.specs.Coffers.{Coffer}
use Rattle.zo_model.specs.Legal.{IsInUse, IsNoKey, is_lost, pages_needed}
use Rattle.zo_model.specs.Seats.{Tried}
use Rattle.zo_lease.specs.Steps.{heard}
use Rattle.zo_lease.specs.Words.{is_open, counter_word}
use Rattle.zo_lease.specs.Turns.{stands_in, exchange_fails}
use Rattle.zo_lease.specs.Turns.{Turn as Heeded}
use Rattle.tr_replay.specs.Seats.{Turn, Seat, Told, Refused, control_in}
use Rattle.tr_replay.specs.Verdicts.{Outlook, NotLooked, NotJudged, Would}

-- the command only reads
abbrev pub reads : Command → Bool
reads (Create path mode) = false
reads (Stat path) = true

-- the word that a lease, or the counter beside it, showed the call last
abbrev pub heeded : Turn → Heeded
heeded t = record { action = t.action; mark = t.mark; heard = heard t.answer; now = t.now }

abbrev pub last_shown : ℕ → List Turn → Option ℕ
last_shown addr turns = stands_in addr (map heeded turns)

-- A load that looks once more at a word shows another than the call saw there last.
abbrev pub is_again : Mark → Bool
is_again Check = true
is_again Point = true
is_again mark = false

abbrev pub differs : Option ℕ → ℕ → Bool
differs None word = false
differs (Some seen) word = not (word == seen)

abbrev pub shows_other : ℕ → Action → Answer → Option ℕ → Bool
shows_other addr (Load at) (WordIs word) seen = (at == addr) && differs seen word
shows_other addr action answer seen = false

abbrev pub has_moved : ℕ → Turn → List Turn → Bool
has_moved addr t earlier = is_again t.mark && shows_other addr t.action t.answer (last_shown addr earlier)

-- a load shows that the lease is held by someone
abbrev pub shows_held : ℕ → Action → Answer → ℕ → Bool
shows_held addr (Load at) (WordIs word) now = (at == addr) && not (is_open word now)
shows_held addr action answer now = false

-- the call has put this word into the lease itself
abbrev pub puts_by : ℕ → ℕ → Action → Answer → Bool
puts_by addr word (Cas at old new) (WordIs was) = (at == addr) && ((was == old) && (new == word))
puts_by addr word action answer = false

abbrev pub puts : ℕ → ℕ → Turn → Bool
puts addr word t = puts_by addr word t.action t.answer

abbrev pub has_put : ℕ → Answer → List Turn → Bool
has_put addr (WordIs word) turns = list_any (puts addr word) turns
has_put addr answer turns = false

-- A try for the lease at an address fails. Who changes fails by an exchange that finds another's word. Who reads fails by a load: it
-- shows the lease held, or the lease or the counter beside it moved since the try began.
abbrev pub try_fails : Bool → ℕ → Turn → List Turn → Bool
try_fails true addr t earlier = shows_held addr t.action t.answer t.now || has_moved addr t earlier || has_moved (counter_word addr) t earlier
try_fails false addr t earlier = exchange_fails addr t.action (heard t.answer) t.now (last_shown addr earlier) && not (has_put addr t.answer earlier)

-- A reader's try begins with a load of the counter that is no look once more; it fails once.
abbrev pub begins_at : ℕ → Action → Bool
begins_at addr (Load at) = at == counter_word addr
begins_at addr action = false

abbrev pub begins_try : ℕ → Turn → Bool
begins_try addr t = not (is_again t.mark) && begins_at addr t.action

abbrev pub has_failed : ℕ → List Turn → Bool
has_failed addr [] = false
has_failed addr (t ∷ earlier) = if begins_try addr t then false else (try_fails true addr t earlier || has_failed addr earlier)

abbrev pub counts : Bool → ℕ → Turn → List Turn → Bool
counts true addr t earlier = try_fails true addr t earlier && not (has_failed addr earlier)
counts false addr t earlier = try_fails false addr t earlier

abbrev pub tries_failed : Bool → ℕ → List Turn → ℕ
tries_failed reading addr [] = 0
tries_failed reading addr (t ∷ earlier) = (if counts reading addr t earlier then 1 else 0) + tries_failed reading addr earlier

-- what the last failed try was told, and at which tick
pub record Failure : Type 0 where
  pub answer : Answer
  pub now : ℕ

abbrev pub last_failed : Bool → ℕ → List Turn → Option Failure
last_failed reading addr [] = None
last_failed reading addr (t ∷ earlier) = if counts reading addr t earlier then Some (record { answer = t.answer; now = t.now }) else last_failed reading addr earlier

-- sixteen tries for the lease have failed, and the last one was told this word at this tick
pub record WasBusy (is_lease : ℕ → Bool) (command : Command) (turns : List Turn) (addr word now : ℕ) : Type 0 where
  pub lease : is_lease addr ≡ true
  pub sixteen : tries_failed (reads command) addr turns ≡ 16
  pub last : last_failed (reads command) addr turns ≡ Some (record { answer = WordIs word; now = now })

-- What damage shows, in a coffer that is lost: the call was shown the word at this address, or was refused a word in its page; or the
-- kernel refused it pages for another reason than that too few are free, and this is the control page.

abbrev pub is_shown : ℕ → Action → Answer → Bool
is_shown addr (Load at) (WordIs word) = at == addr
is_shown addr (Load at) answer = at / 4096 == addr / 4096
is_shown addr (Store at word) (Fault kind) = at / 4096 == addr / 4096
is_shown addr (Cas at old new) (Fault kind) = at / 4096 == addr / 4096
is_shown addr action answer = false

abbrev pub shows_damage : ℕ → Turn → Bool
shows_damage addr t = is_shown addr t.action t.answer

abbrev pub is_other_refusal : Action → Answer → Bool
is_other_refusal (Kernel (Enlarge id count)) (Kern (kern.Pages pages)) = false
is_other_refusal (Kernel (Enlarge id count)) (Kern (kern.NoPages asked free)) = false
is_other_refusal (Kernel (Enlarge id count)) answer = true
is_other_refusal action answer = false

abbrev pub was_refused : Turn → Bool
was_refused t = is_other_refusal t.action t.answer

abbrev pub control_at_of : Option ℕ → Option ℕ
control_at_of None = None
control_at_of (Some page) = Some (page_at page)

pub record IsDamaged (coffers : List Coffer) (seat : Seat) (addr : ℕ) : Type 0 where
  pub lost : is_lost (consulted coffers seat.command) ≡ true
  pub shown : (list_any (shows_damage addr) seat.turns ≡ true) ⊎ ((list_any was_refused seat.turns ≡ true) × (control_at_of (control_in seat.tried) ≡ Some addr))

-- The reply to a call that was refused pages. It asked only after its pool showed no page and for no more than its command may need,
-- and where it is judged, the command would have come about at its last look before.

abbrev pub MayFallShort : Outlook → Type 0
MayFallShort NotLooked = ⊥
MayFallShort NotJudged = Unit {0}
MayFallShort (Would success) = success ≡ true

pub record HasNoSpace (command : Command) (asked free : ℕ) (drained : Bool) (short : Outlook) (given : Reply) : Type 0 where
  pub reply_is : given ≡ reply.NoSpace asked free
  pub drained_is : drained ≡ true
  pub few : asked ≤ pages_needed command
  pub looked : MayFallShort short

-- a Map of the call was answered so
pub record WasTried (seat : Seat) (Was : KernAnswer → Type 0) : Type 0 where
  pub map : Tried
  pub among : Contains seat.tried map
  pub was : Was map.answer

-- Replies that only their cause allows. Those on coffers that come and go have none yet. `is_lease` tells the words of leases.
abbrev pub HasReason : (ℕ → Bool) → List Coffer → Seat → Reply → Type 0
HasReason is_lease coffers seat (reply.NoSpace need free) = ⊥
HasReason is_lease coffers seat (reply.Busy addr word now) = WasBusy is_lease seat.command seat.turns addr word now
HasReason is_lease coffers seat (reply.Expired addr word) = Contains seat.taken (record { addr = addr; word = word })
HasReason is_lease coffers seat (reply.Again times) = ⊥
HasReason is_lease coffers seat reply.TooMany = ⊥
HasReason is_lease coffers seat (reply.InUse thread) = WasTried seat (IsInUse thread)
HasReason is_lease coffers seat reply.NoKey = WasTried seat IsNoKey
HasReason is_lease coffers seat (reply.Damaged addr) = IsDamaged coffers seat addr
HasReason is_lease coffers seat given = Unit {0}

-- NoSpace is the reply just where the call was refused pages.
abbrev pub HasCause : (ℕ → Bool) → List Coffer → Seat → Told → Outlook → Reply → Type 0
HasCause is_lease coffers seat (Refused asked free drained) short given = HasNoSpace seat.command asked free drained short given
HasCause is_lease coffers seat told short given = HasReason is_lease coffers seat given

-- the replies that the command's answer doesn't decide
abbrev pub is_own_reply : Reply → Bool
is_own_reply (reply.NoSpace need free) = true
is_own_reply (reply.Busy addr word now) = true
is_own_reply (reply.Expired addr word) = true
is_own_reply (reply.Again times) = true
is_own_reply reply.TooMany = true
is_own_reply (reply.InUse thread) = true
is_own_reply reply.NoKey = true
is_own_reply (reply.Damaged addr) = true
is_own_reply given = false
