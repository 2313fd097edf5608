-- Which entries have texts that can be read back, what a text doesn't show, and that a text shows all else.
use Rattle.std.specs.Prelude.{◌≡◌, ◌⊎◌, ℕ, ◌<◌, ◌^◌, ⊤, List, length, map, Bool, true, false, Option, Some, None}
use Rattle.std.specs.List.{AllByRecursion}
use Rattle.tr_types.specs.Paths.{is_path_text, is_name_text}
use Rattle.tr_types.specs.Permission.{group_ids, groups_of}
use Rattle.tr_types.specs.Shown.{shown}
use Rattle.tr_types.specs.declared.action.Action.{Action}
use Rattle.tr_types.specs.declared.action.Action.TheVariants as action
use Rattle.tr_types.specs.declared.action.Answer.{Answer}
use Rattle.tr_types.specs.declared.action.Answer.TheVariants as answer
use Rattle.tr_types.specs.declared.command.Command.{Command}
use Rattle.tr_types.specs.declared.command.Command.TheVariants as command
use Rattle.tr_types.specs.declared.command.Reply.{Reply}
use Rattle.tr_types.specs.declared.command.Reply.TheVariants as reply
use Rattle.tr_types.specs.declared.entry.CofferRow.{CofferRow}
use Rattle.tr_types.specs.declared.entry.Entry.{Entry}
use Rattle.tr_types.specs.declared.entry.Entry.TheVariants as entry
use Rattle.tr_types.specs.declared.entry.Pick.{Pick}
use Rattle.tr_types.specs.declared.entry.Pick.TheVariants as pick
use Rattle.tr_types.specs.declared.kernel_call.FoundAt.{FoundAt}
use Rattle.tr_types.specs.declared.kernel_call.Kcall.{Kcall}
use Rattle.tr_types.specs.declared.kernel_call.Kcall.TheVariants as call
use Rattle.tr_types.specs.declared.kernel_call.KernAnswer.{KernAnswer}
use Rattle.tr_types.specs.declared.kernel_call.KernAnswer.TheVariants as kern
use Rattle.tr_types.specs.declared.permission.Cred.{Cred}
use Rattle.tr_types.specs.declared.permission.Right.{Right}
use Rattle.tr_text.specs.Text.{full_text, full_texts}

-- What can be written: numbers that fit their fields, paths and names, modes of three digits, single rights.

abbrev pub IsNumber : ℕ → Type 0
IsNumber n = n < 2 ^ 64

abbrev pub IsThread : ℕ → Type 0
IsThread thread = thread < 2 ^ 16

abbrev pub IsProcess : ℕ → Type 0
IsProcess process = process < 2 ^ 8

abbrev pub IsPath : List ℕ → Type 0
IsPath path = is_path_text path ≡ true

abbrev pub IsPathOrNone : Option (List ℕ) → Type 0
IsPathOrNone None = ⊤
IsPathOrNone (Some path) = IsPath path

abbrev pub IsName : List ℕ → Type 0
IsName name = is_name_text name ≡ true

abbrev pub IsMode : ℕ → Type 0
IsMode mode = mode < 512

abbrev pub IsByte : ℕ → Type 0
IsByte byte = byte < 256

abbrev pub IsOneRight : Right → Type 0
IsOneRight right = (right.0 ≡ 1) ⊎ ((right.0 ≡ 2) ⊎ (right.0 ≡ 4))

abbrev pub AreNumbers : List ℕ → Type 0
AreNumbers numbers = AllByRecursion IsNumber numbers

abbrev pub IsWrittenCommand : Command → Type 0
IsWrittenCommand (command.Create path mode) = IsPath path × IsMode mode
IsWrittenCommand (command.Stat path) = IsPath path

abbrev pub IsWrittenReply : Reply → Type 0
IsWrittenReply (reply.Wrote count) = IsNumber count
IsWrittenReply (reply.Data bytes) = AllByRecursion IsByte bytes
IsWrittenReply (reply.Info kind size uid gid mode) = IsNumber size × IsNumber uid × IsNumber gid × IsMode mode
IsWrittenReply (reply.Names names) = IsNumber (length names) × AllByRecursion IsName names
IsWrittenReply (reply.Denied right path) = IsOneRight right × IsPath path
IsWrittenReply (reply.TooBig end) = IsNumber end
IsWrittenReply (reply.NoSpace need free) = IsNumber need × IsNumber free
IsWrittenReply (reply.Busy addr word now) = IsNumber addr × IsNumber word × IsNumber now
IsWrittenReply (reply.Expired addr word) = IsNumber addr × IsNumber word
IsWrittenReply (reply.InUse thread) = IsThread thread
IsWrittenReply (reply.Again times) = IsNumber times
IsWrittenReply (reply.Damaged addr) = IsNumber addr
IsWrittenReply r = ⊤

abbrev pub IsLink : ℕ × ℕ × ℕ → Type 0
IsLink link = IsNumber link.0 × IsNumber link.1 × IsNumber link.2

abbrev pub IsGuard : ℕ × ℕ → Type 0
IsGuard guard = IsNumber guard.0 × IsNumber guard.1

abbrev pub IsWrittenCall : Kcall → Type 0
IsWrittenCall (call.Find path also) = IsPath path × IsPathOrNone also
IsWrittenCall (call.Map path right exclusive) = IsPath path × IsOneRight right
IsWrittenCall (call.Unmap id) = IsNumber id
IsWrittenCall (call.New parent path kind mode link guard) = IsNumber parent × IsPath path × IsNumber kind × IsMode mode × IsLink link × IsGuard guard
IsWrittenCall (call.Delete id parent link guard) = IsNumber id × IsNumber parent × IsLink link × IsGuard guard
IsWrittenCall (call.Enlarge id count) = IsNumber id × IsNumber count
IsWrittenCall (call.Shrink id pages guard) = IsNumber id × AreNumbers pages × IsGuard guard
IsWrittenCall (call.Split id path pages mode link guard) = IsNumber id × IsPath path × AreNumbers pages × IsMode mode × IsLink link × IsGuard guard
IsWrittenCall (call.Merge child parent pages link guard) = IsNumber child × IsNumber parent × AreNumbers pages × IsLink link × IsGuard guard
IsWrittenCall (call.Mode id mode) = IsNumber id × IsMode mode
IsWrittenCall (call.Recover id ready) = IsNumber id

abbrev pub IsWrittenAction : Action → Type 0
IsWrittenAction (action.Load addr) = IsNumber addr
IsWrittenAction (action.Store addr word) = IsNumber addr × IsNumber word
IsWrittenAction (action.Cas addr old new) = IsNumber addr × IsNumber old × IsNumber new
IsWrittenAction (action.Flush addr) = IsNumber addr
IsWrittenAction action.Fence = ⊤
IsWrittenAction (action.Pkru pkru) = IsNumber pkru
IsWrittenAction (action.Kernel kcall) = IsWrittenCall kcall

abbrev pub IsWrittenFound : FoundAt → Type 0
IsWrittenFound found = IsNumber found.id × IsNumber found.path_len

abbrev pub IsWrittenSecond : Option FoundAt → Type 0
IsWrittenSecond None = ⊤
IsWrittenSecond (Some found) = IsWrittenFound found

abbrev pub IsWrittenKern : KernAnswer → Type 0
IsWrittenKern (kern.Found first second) = IsWrittenFound first × IsWrittenSecond second
IsWrittenKern (kern.Mapped mapped) = IsNumber mapped.id × IsNumber mapped.key × IsNumber mapped.control × IsNumber mapped.root × IsNumber mapped.pages × IsNumber mapped.path_len
IsWrittenKern (kern.Made id) = IsNumber id
IsWrittenKern (kern.Pages pages) = AreNumbers pages
IsWrittenKern (kern.Denied right id path_len) = IsOneRight right
IsWrittenKern (kern.InUse thread id path_len) = IsThread thread
IsWrittenKern (kern.NotYours page) = IsNumber page
IsWrittenKern (kern.GuardFailed addr word) = IsNumber addr × IsNumber word
IsWrittenKern (kern.LinkDiffers addr word) = IsNumber addr × IsNumber word
IsWrittenKern (kern.NoPages asked free) = IsNumber asked × IsNumber free
IsWrittenKern k = ⊤

-- an action that the kernel answers
abbrev pub is_kernel : Action → Bool
is_kernel (action.Kernel kcall) = true
is_kernel a = false

-- The answer is the kernel's exactly where it was asked; else two answers would have one text.
abbrev pub IsWrittenAnswer : Bool → Answer → Type 0
IsWrittenAnswer true (answer.Kern kern) = IsWrittenKern kern
IsWrittenAnswer true a = ⊥
IsWrittenAnswer false (answer.Kern kern) = ⊥
IsWrittenAnswer false (answer.Word word) = IsNumber word
IsWrittenAnswer false a = ⊤

abbrev pub IsWrittenPick : Pick → Type 0
IsWrittenPick (pick.Seed seed) = IsNumber seed
IsWrittenPick p = ⊤

abbrev pub IsWrittenCred : Cred → Type 0
IsWrittenCred cred = IsNumber cred.uid × IsNumber cred.gid × AreNumbers (group_ids cred.groups)

abbrev pub IsWrittenRow : CofferRow → Type 0
IsWrittenRow row = IsPath row.path × IsNumber row.perm.uid × IsNumber row.perm.gid × IsMode row.perm.mode

abbrev pub IsWritten : Entry → Type 0
IsWritten (entry.Mkfs pages) = IsNumber pages
IsWritten (entry.Process process cred) = IsProcess process × IsWrittenCred cred
IsWritten (entry.Thread thread process) = IsThread thread × IsProcess process
IsWritten (entry.Tick ticks) = IsNumber ticks
IsWritten (entry.Call thread command) = IsThread thread × IsWrittenCommand command
IsWritten (entry.Act thread now mark action answer) = IsThread thread × IsNumber now × IsWrittenAction action × IsWrittenAnswer (is_kernel action) answer
IsWritten (entry.Reply thread reply) = IsThread thread × IsWrittenReply reply
IsWritten (entry.Stray thread addr word answer) = IsThread thread × IsNumber addr × IsNumber word × IsWrittenAnswer false answer
IsWritten (entry.Wild thread now action answer) = IsThread thread × IsNumber now × IsWrittenAction action × IsWrittenAnswer (is_kernel action) answer
IsWritten (entry.Corrupt process) = IsProcess process
IsWritten (entry.Kill process) = IsProcess process
IsWritten (entry.Crash pick) = IsWrittenPick pick
IsWritten (entry.CrashIn thread now kcall k pick) = IsThread thread × IsNumber now × IsWrittenCall kcall × IsNumber k × IsWrittenPick pick
IsWritten (entry.Recovery action) = IsWrittenAction action
IsWritten (entry.Recovered ready quarantined) = IsNumber ready × IsNumber quarantined
IsWritten (entry.Lost path) = IsPath path
IsWritten (entry.Skip line why) = IsNumber line
IsWritten (entry.Quarantine path) = IsPath path
IsWritten (entry.Coffers rows) = IsNumber (length rows) × AllByRecursion IsWrittenRow rows

-- What a text doesn't show is put to nothing: in the kernel's answers what `shown` says, and the places for further
-- groups that a process doesn't have.

abbrev pub shown_answer : Answer → Answer
shown_answer (answer.Kern kern) = answer.Kern (shown kern)
shown_answer a = a

abbrev pub shown_cred : Cred → Cred
shown_cred cred = record { uid = cred.uid; gid = cred.gid; groups = groups_of (group_ids cred.groups) }

abbrev pub shown_entry : Entry → Entry
shown_entry (entry.Process process cred) = entry.Process process (shown_cred cred)
shown_entry (entry.Act thread now mark action answer) = entry.Act thread now mark action (shown_answer answer)
shown_entry (entry.Stray thread addr word answer) = entry.Stray thread addr word (shown_answer answer)
shown_entry (entry.Wild thread now action answer) = entry.Wild thread now action (shown_answer answer)
shown_entry e = e

-- Two entries with one full text differ only in what no text shows.
abbrev pub FullTextLaw : Type 0
FullTextLaw = (one other : Entry) → IsWritten one → IsWritten other → full_text one ≡ full_text other → shown_entry one ≡ shown_entry other

-- the same of whole traces
abbrev pub FullTextsLaw : Type 0
FullTextsLaw = (one other : List Entry) → AllByRecursion IsWritten one → AllByRecursion IsWritten other → full_texts one ≡ full_texts other → map shown_entry one ≡ map shown_entry other
