-- The words of an entry are read back as the entry with what its text shows.
use Rattle.std.proofs.Common.{◌≡◌, ℕ, ◌+◌, List, [], ◌∷◌, ◌++◌, Bool, true, false, ltb, refl, ap, ◌∙◌, arith}
use Rattle.std.proofs.lemmas.Bool.{cond-true, cond-false}
use Rattle.std.specs.Fmt.{decimal}
use Rattle.std.specs.Prelude.{Option, Some, None, codes}
use Rattle.tr_types.specs.Permission.{group_ids, groups_of}
use Rattle.tr_types.specs.Shown.{no_perm, shown, shown_found, shown_second}
use Rattle.tr_types.specs.declared.action.Action.{Action}
use Rattle.tr_types.specs.declared.action.Action.TheVariants as action
use Rattle.tr_types.specs.declared.action.Answer.{Answer}
use Rattle.tr_types.specs.declared.action.Answer.TheVariants as answer
use Rattle.tr_types.specs.declared.action.FaultKind.{FaultKind}
use Rattle.tr_types.specs.declared.action.FaultKind.TheVariants as fault
use Rattle.tr_types.specs.declared.command.Command.{Command}
use Rattle.tr_types.specs.declared.command.Command.TheVariants as command
use Rattle.tr_types.specs.declared.command.Kind.{Kind}
use Rattle.tr_types.specs.declared.command.Kind.TheVariants as kind
use Rattle.tr_types.specs.declared.command.Reply.{Reply}
use Rattle.tr_types.specs.declared.command.Reply.TheVariants as reply
use Rattle.tr_types.specs.declared.entry.CofferRow.{CofferRow}
use Rattle.tr_types.specs.declared.entry.CofferState.{CofferState}
use Rattle.tr_types.specs.declared.entry.CofferState.TheVariants as state
use Rattle.tr_types.specs.declared.entry.Entry.{Entry}
use Rattle.tr_types.specs.declared.entry.Entry.TheVariants as entry
use Rattle.tr_types.specs.declared.entry.Mark.{Mark}
use Rattle.tr_types.specs.declared.entry.Mark.TheVariants as mark
use Rattle.tr_types.specs.declared.entry.Pick.{Pick}
use Rattle.tr_types.specs.declared.entry.Pick.TheVariants as pick
use Rattle.tr_types.specs.declared.entry.Why.{Why}
use Rattle.tr_types.specs.declared.entry.Why.TheVariants as why
use Rattle.tr_types.specs.declared.kernel_call.FoundAt.{FoundAt}
use Rattle.tr_types.specs.declared.kernel_call.Kcall.{Kcall}
use Rattle.tr_types.specs.declared.kernel_call.Kcall.TheVariants as call
use Rattle.tr_types.specs.declared.kernel_call.KernAnswer.{KernAnswer}
use Rattle.tr_types.specs.declared.kernel_call.KernAnswer.TheVariants as kern
use Rattle.tr_text.specs.Spelling.{thread_name, process_name, kind_text, fault_text, mark_text, why_text, state_text}
use Rattle.tr_text.specs.Words.{command_words, reply_words, kcall_words, action_words, found_words, second_words, kern_words, answer_words, pick_words, groups_words, row_words, answered_words, entry_words}
use Rattle.tr_text.specs.Written.{IsNumber, IsThread, IsProcess, AreNumbers, IsLink, IsGuard, IsWrittenCommand, IsWrittenReply, IsWrittenCall, IsWrittenAction, IsWrittenFound, IsWrittenSecond, IsWrittenKern, is_kernel, IsWrittenAnswer, IsWrittenPick, IsWrittenRow, IsWritten, shown_answer, shown_entry}
use Rattle.tr_text.proofs.Reading.{read_number, read_name, read_kind, read_fault, read_mark, read_why, read_state, is_equals, before_equals, behind_equals, read_command, read_reply, read_call, read_action, read_found, read_second, read_kern, read_answer, read_pick, read_groups, read_row, behind_pick, is_name, is_kernel_word, read_act, read_named, read_of_thread, read_other, read_words, word_at, byte_at}
use Rattle.tr_text.proofs.WordLemmas.{number_read, first_digit, name_read, name_is_name, mode_read, bit_read, share_read, right_read, list_read, data_read}
use Rattle.tr_text.proofs.PlainLemmas.{AreArguments, action_arguments}

-- Single words.

thread_read : (thread : ℕ) → IsThread thread → read_name (thread_name thread) ≡ thread
thread_read thread small = name_read 116 thread (omega arith)

process_read : (process : ℕ) → IsProcess process → read_name (process_name process) ≡ process
process_read process small = name_read 112 process (omega arith)

kind_read : (k : Kind) → read_kind (kind_text k) ≡ k
kind_read kind.File = refl
kind_read kind.Dir = refl

fault_read : (f : FaultKind) → read_fault (fault_text f) ≡ f
fault_read fault.NotMapped = refl
fault_read fault.NotWritable = refl
fault_read fault.KeyDenied = refl

mark_read : (m : Mark) → read_mark (mark_text m) ≡ m
mark_read mark.Plain = refl
mark_read mark.Open = refl
mark_read mark.Close = refl
mark_read mark.Take = refl
mark_read mark.Note = refl
mark_read mark.Check = refl
mark_read mark.Point = refl
mark_read mark.Commit = refl

why_read : (w : Why) → read_why (why_text w) ≡ w
why_read why.Dead = refl
why_read why.Running = refl
why_read why.Sound = refl
why_read why.Down = refl
why_read why.Up = refl
why_read why.NotKernel = refl
why_read why.NoThread = refl

state_read : (s : CofferState) → read_state (state_text s) ≡ s
state_read state.Ready = refl
state_read state.Lost = refl
state_read state.Quarantined = refl

-- Words.

command_read : (c : Command) → IsWrittenCommand c → read_command (command_words c) ≡ c
command_read (command.Create path mode) is = λ i. command.Create path (mode_read mode is.1 i)
command_read (command.Stat path) is = refl

reply_read : (r : Reply) → IsWrittenReply r → read_reply (reply_words r) ≡ r
reply_read reply.Made is = refl
reply_read reply.Gone is = refl
reply_read (reply.Wrote count) is = λ i. reply.Wrote (number_read count is i)
reply_read reply.Cut is = refl
reply_read (reply.Data bytes) is = λ i. reply.Data (data_read bytes is i)
reply_read (reply.Info kind size uid gid mode) is =
    λ i. reply.Info (kind_read kind i) (number_read size is.0 i) (number_read uid is.1 i) (number_read gid is.2 i) (mode_read mode is.3 i)
reply_read (reply.Names names) is = refl
reply_read reply.Moded is = refl
reply_read reply.Moved is = refl
reply_read (reply.Denied right path) is = λ i. reply.Denied (right_read right is.0 i) path
reply_read reply.NotFound is = refl
reply_read reply.NotDir is = refl
reply_read reply.Exists is = refl
reply_read reply.IsDir is = refl
reply_read reply.NotEmpty is = refl
reply_read (reply.TooBig end) is = λ i. reply.TooBig (number_read end is i)
reply_read reply.TooLong is = refl
reply_read reply.CrossCoffer is = refl
reply_read reply.TooMany is = refl
reply_read (reply.NoSpace need free) is = λ i. reply.NoSpace (number_read need is.0 i) (number_read free is.1 i)
reply_read reply.Quarantined is = refl
reply_read (reply.Busy addr word now) is = λ i. reply.Busy (number_read addr is.0 i) (number_read word is.1 i) (number_read now is.2 i)
reply_read (reply.Expired addr word) is = λ i. reply.Expired (number_read addr is.0 i) (number_read word is.1 i)
reply_read reply.NoKey is = refl
reply_read (reply.InUse thread) is = λ i. reply.InUse (thread_read thread is i)
reply_read (reply.Again times) is = λ i. reply.Again (number_read times is i)
reply_read (reply.Damaged addr) is = λ i. reply.Damaged (number_read addr is i)

link_read : (link : ℕ × ℕ × ℕ) → IsLink link → (read_number (decimal link.0), read_number (decimal link.1), read_number (decimal link.2)) ≡ link
link_read link is = λ i. (number_read link.0 is.0 i, number_read link.1 is.1 i, number_read link.2 is.2 i)

guard_read : (guard : ℕ × ℕ) → IsGuard guard → (read_number (decimal guard.0), read_number (decimal guard.1)) ≡ guard
guard_read guard is = λ i. (number_read guard.0 is.0 i, number_read guard.1 is.1 i)

call_read : (c : Kcall) → IsWrittenCall c → read_call (kcall_words c) ≡ c
call_read (call.Find path None) is = refl
call_read (call.Find path (Some also)) is = refl
call_read (call.Map path right exclusive) is = λ i. call.Map path (right_read right is.1 i) (share_read exclusive i)
call_read (call.Unmap id) is = λ i. call.Unmap (number_read id is i)
call_read (call.New parent path kind mode link guard) is =
    λ i. call.New (number_read parent is.0 i) path (number_read kind is.2 i) (mode_read mode is.3 i) (link_read link is.4 i) (guard_read guard is.5 i)
call_read (call.Delete id parent link guard) is = λ i. call.Delete (number_read id is.0 i) (number_read parent is.1 i) (link_read link is.2 i) (guard_read guard is.3 i)
call_read (call.Enlarge id count) is = λ i. call.Enlarge (number_read id is.0 i) (number_read count is.1 i)
call_read (call.Shrink id pages guard) is = λ i. call.Shrink (number_read id is.0 i) (list_read pages is.1 i) (guard_read guard is.2 i)
call_read (call.Split id path pages mode link guard) is =
    λ i. call.Split (number_read id is.0 i) path (list_read pages is.2 i) (mode_read mode is.3 i) (link_read link is.4 i) (guard_read guard is.5 i)
call_read (call.Merge child parent pages link guard) is =
    λ i. call.Merge (number_read child is.0 i) (number_read parent is.1 i) (list_read pages is.2 i) (link_read link is.3 i) (guard_read guard is.4 i)
call_read (call.Mode id mode) is = λ i. call.Mode (number_read id is.0 i) (mode_read mode is.1 i)
call_read (call.Recover id ready) is = λ i. call.Recover (number_read id is i) (bit_read ready i)

action_read : (a : Action) → IsWrittenAction a → read_action (action_words a) ≡ a
action_read (action.Load addr) is = λ i. action.Load (number_read addr is i)
action_read (action.Store addr word) is = λ i. action.Store (number_read addr is.0 i) (number_read word is.1 i)
action_read (action.Cas addr old new) is = λ i. action.Cas (number_read addr is.0 i) (number_read old is.1 i) (number_read new is.2 i)
action_read (action.Flush addr) is = λ i. action.Flush (number_read addr is i)
action_read action.Fence is = refl
action_read (action.Pkru pkru) is = λ i. action.Pkru (number_read pkru is i)
action_read (action.Kernel kcall) is = λ i. action.Kernel (call_read kcall is i)

found_read : (f : FoundAt) → IsWrittenFound f → read_found (found_words f) ≡ shown_found f
found_read f is = λ i. record { id = number_read f.id is.0 i; exact = bit_read f.exact i; path_len = number_read f.path_len is.1 i; perm = no_perm }

second_read : (second : Option FoundAt) → IsWrittenSecond second → read_second (second_words second) ≡ shown_second second
second_read None is = refl
second_read (Some f) is = λ i. Some (found_read f is i)

kern_read : (k : KernAnswer) → IsWrittenKern k → read_kern (kern_words k) ≡ shown k
kern_read kern.Done is = refl
kern_read kern.Same is = refl
kern_read (kern.Found first second) is = λ i. kern.Found (found_read first is.0 i) (second_read second is.1 i)
kern_read (kern.Mapped m) is =
    λ i. kern.Mapped (record { id = number_read m.id is.0 i; key = number_read m.key is.1 i; control = number_read m.control is.2 i; root = number_read m.root is.3 i; pages = number_read m.pages is.4 i; path_len = number_read m.path_len is.5 i; perm = no_perm })
kern_read (kern.Made id) is = λ i. kern.Made (number_read id is i)
kern_read (kern.Pages pages) is = λ i. kern.Pages (list_read pages is i)
kern_read kern.NotHeld is = refl
kern_read kern.BadPath is = refl
kern_read (kern.Denied right id path_len) is = λ i. kern.Denied (right_read right is i) 0 0
kern_read (kern.Quarantined id path_len) is = refl
kern_read (kern.InUse thread id path_len) is = λ i. kern.InUse (thread_read thread is i) 0 0
kern_read (kern.NoKey id path_len) is = refl
kern_read (kern.NotYours page) is = λ i. kern.NotYours (number_read page is i)
kern_read (kern.GuardFailed addr word) is = λ i. kern.GuardFailed (number_read addr is.0 i) (number_read word is.1 i)
kern_read (kern.LinkDiffers addr word) is = λ i. kern.LinkDiffers (number_read addr is.0 i) (number_read word is.1 i)
kern_read kern.Taken is = refl
kern_read kern.TooMany is = refl
kern_read (kern.NoPages asked free) is = λ i. kern.NoPages (number_read asked is.0 i) (number_read free is.1 i)
kern_read kern.NoCoffer is = refl
kern_read kern.NotEmptyList is = refl
kern_read kern.BadCount is = refl
kern_read kern.NoMemory is = refl

answer_read : (kernel : Bool) (a : Answer) → IsWrittenAnswer kernel a → read_answer kernel (answer_words a) ≡ shown_answer a
answer_read true (answer.Kern k) is = λ i. answer.Kern (kern_read k is i)
answer_read true (answer.Word word) is = absurd is
answer_read true answer.Done is = absurd is
answer_read true (answer.Fault f) is = absurd is
answer_read false (answer.Kern k) is = absurd is
answer_read false (answer.Word word) is = λ i. answer.Word (number_read word is i)
answer_read false answer.Done is = refl
answer_read false (answer.Fault f) is = λ i. answer.Fault (fault_read f i)

pick_read : (p : Pick) (rest : List (List ℕ)) → IsWrittenPick p → read_pick (pick_words p ++ rest) ≡ p
pick_read pick.All rest is = refl
pick_read pick.None rest is = refl
pick_read (pick.Seed seed) rest is = λ i. pick.Seed (number_read seed is i)

behind_pick_read : (p : Pick) (rest : List (List ℕ)) → behind_pick (pick_words p ++ rest) ≡ rest
behind_pick_read pick.All rest = refl
behind_pick_read pick.None rest = refl
behind_pick_read (pick.Seed seed) rest = refl

groups_read : (ids : List ℕ) → AreNumbers ids → read_groups (groups_words ids) ≡ ids
groups_read [] is = refl
groups_read (id ∷ ids) is = list_read (id ∷ ids) is

pub row_read : (row : CofferRow) → IsWrittenRow row → read_row (row_words row) ≡ row
row_read row is =
    λ i. record { path = row.path; perm = record { uid = number_read row.perm.uid is.1 i; gid = number_read row.perm.gid is.2 i; mode = mode_read row.perm.mode is.3 i }; state = state_read row.state i }

-- What stands around `=`.

before_is : (front behind : List (List ℕ)) → AreArguments front → before_equals (front ++ codes "=" ∷ behind) ≡ front
before_is [] behind arguments = refl
before_is (word ∷ front) behind arguments =
    cond-false (is_equals word) [] (word ∷ before_equals (front ++ codes "=" ∷ behind)) arguments.0.1 ∙ ap (λ (words : List (List ℕ)). word ∷ words) (before_is front behind arguments.1)

behind_is : (front behind : List (List ℕ)) → AreArguments front → behind_equals (front ++ codes "=" ∷ behind) ≡ behind
behind_is [] behind arguments = refl
behind_is (word ∷ front) behind arguments =
    cond-false (is_equals word) (front ++ codes "=" ∷ behind) (behind_equals (front ++ codes "=" ∷ behind)) arguments.0.1 ∙ behind_is front behind arguments.1

kernel_is : (a : Action) (behind : List (List ℕ)) → is_kernel_word (word_at 0 (action_words a ++ behind)) ≡ is_kernel a
kernel_is (action.Load addr) behind = refl
kernel_is (action.Store addr word) behind = refl
kernel_is (action.Cas addr old new) behind = refl
kernel_is (action.Flush addr) behind = refl
kernel_is action.Fence behind = refl
kernel_is (action.Pkru pkru) behind = refl
kernel_is (action.Kernel kcall) behind = refl

done_read : (a : Action) (b : Answer) → IsWrittenAction a → read_action (before_equals (answered_words a b)) ≡ a
done_read a b is = ap read_action (before_is (action_words a) (answer_words b) (action_arguments a is)) ∙ action_read a is

told_read : (a : Action) (b : Answer) → IsWrittenAction a → IsWrittenAnswer (is_kernel a) b
    → read_answer (is_kernel_word (word_at 0 (answered_words a b))) (behind_equals (answered_words a b)) ≡ shown_answer b
told_read a b is told =
    (λ i. read_answer (kernel_is a (codes "=" ∷ answer_words b) i) (behind_is (action_words a) (answer_words b) (action_arguments a is) i)) ∙ answer_read (is_kernel a) b told

-- Lines.

-- with these rows in a list of coffers
abbrev pub after_rows : List CofferRow → Entry → Entry
after_rows rows (entry.Coffers r) = entry.Coffers rows
after_rows rows e = e

of_name : (letter n : ℕ) (rows : List CofferRow) (rest : List (List ℕ)) → IsNumber (n + 1) → read_words rows ((letter ∷ decimal (n + 1)) ∷ rest) ≡ read_named ((letter ∷ decimal (n + 1)) ∷ rest)
of_name letter n rows rest small =
    cond-true (is_name (letter ∷ decimal (n + 1))) (read_named ((letter ∷ decimal (n + 1)) ∷ rest)) (read_other rows ((letter ∷ decimal (n + 1)) ∷ rest)) (name_is_name letter n small)

of_thread : (thread : ℕ) (rows : List CofferRow) (rest : List (List ℕ)) → IsThread thread → read_words rows (thread_name thread ∷ rest) ≡ read_named (thread_name thread ∷ rest)
of_thread thread rows rest small = of_name 116 thread rows rest (omega arith)

of_process : (process : ℕ) (rows : List CofferRow) (rest : List (List ℕ)) → IsProcess process → read_words rows (process_name process ∷ rest) ≡ read_named (process_name process ∷ rest)
of_process process rows rest small = of_name 112 process rows rest (omega arith)

act_read : (thread now : ℕ) (rest : List (List ℕ)) → IsNumber now → read_named (thread_name thread ∷ decimal now ∷ rest) ≡ read_act (thread_name thread ∷ decimal now ∷ rest)
act_read thread now rest small =
    cond-true (ltb (byte_at 0 (decimal now)) 58) (read_act (thread_name thread ∷ decimal now ∷ rest)) (read_of_thread (thread_name thread ∷ decimal now ∷ rest)) (first_digit now small)

pub entry_read : (e : Entry) (rows : List CofferRow) → IsWritten e → read_words rows (entry_words e) ≡ after_rows rows (shown_entry e)
entry_read (entry.Mkfs pages) rows is = λ i. entry.Mkfs (number_read pages is i)
entry_read (entry.Process process cred) rows is =
    λ i. entry.Process (process_read process is.0 i) (record { uid = number_read cred.uid is.1.0 i; gid = number_read cred.gid is.1.1 i; groups = groups_of (groups_read (group_ids cred.groups) is.1.2 i) })
entry_read (entry.Thread thread process) rows is = λ i. entry.Thread (thread_read thread is.0 i) (process_read process is.1 i)
entry_read (entry.Tick ticks) rows is = λ i. entry.Tick (number_read ticks is i)
entry_read (entry.Call thread command) rows is =
    of_thread thread rows (codes "call" ∷ command_words command) is.0 ∙ (λ i. entry.Call (thread_read thread is.0 i) (command_read command is.1 i))
entry_read (entry.Act thread now mark action answer) rows is =
    of_thread thread rows (decimal now ∷ mark_text mark ∷ answered_words action answer) is.0
    ∙ act_read thread now (mark_text mark ∷ answered_words action answer) is.1
    ∙ (λ i. entry.Act (thread_read thread is.0 i) (number_read now is.1 i) (mark_read mark i) (done_read action answer is.2 i) (told_read action answer is.2 is.3 i))
entry_read (entry.Reply thread reply) rows is =
    of_thread thread rows (codes "reply" ∷ reply_words reply) is.0 ∙ (λ i. entry.Reply (thread_read thread is.0 i) (reply_read reply is.1 i))
entry_read (entry.Stray thread addr word answer) rows is =
    of_thread thread rows (codes "stray" ∷ decimal addr ∷ decimal word ∷ codes "=" ∷ answer_words answer) is.0
    ∙ (λ i. entry.Stray (thread_read thread is.0 i) (number_read addr is.1 i) (number_read word is.2 i) (answer_read false answer is.3 i))
entry_read (entry.Wild thread now action answer) rows is =
    of_thread thread rows (codes "wild" ∷ decimal now ∷ answered_words action answer) is.0
    ∙ (λ i. entry.Wild (thread_read thread is.0 i) (number_read now is.1 i) (done_read action answer is.2 i) (told_read action answer is.2 is.3 i))
entry_read (entry.Corrupt process) rows is = of_process process rows (codes "corrupt" ∷ []) is ∙ (λ i. entry.Corrupt (process_read process is i))
entry_read (entry.Kill process) rows is = of_process process rows (codes "killed" ∷ []) is ∙ (λ i. entry.Kill (process_read process is i))
entry_read (entry.Crash pick.All) rows is = refl
entry_read (entry.Crash pick.None) rows is = refl
entry_read (entry.Crash (pick.Seed seed)) rows is = λ i. entry.Crash (pick.Seed (number_read seed is i))
entry_read (entry.CrashIn thread now kcall k pick) rows is =
    λ i. entry.CrashIn (thread_read thread is.0 i) (number_read now is.1 i) (called i) (number_read k is.3 i) (pick_read pick (kcall_words kcall) is.4 i)
  where
    called : read_call (behind_pick (pick_words pick ++ kcall_words kcall)) ≡ kcall
    called = ap read_call (behind_pick_read pick (kcall_words kcall)) ∙ call_read kcall is.2
entry_read (entry.Recovery action) rows is = λ i. entry.Recovery (action_read action is i)
entry_read (entry.Recovered ready quarantined) rows is = λ i. entry.Recovered (number_read ready is.0 i) (number_read quarantined is.1 i)
entry_read (entry.Lost path) rows is = refl
entry_read (entry.Skip line why) rows is = λ i. entry.Skip (number_read line is i) (why_read why i)
entry_read (entry.Quarantine path) rows is = refl
entry_read (entry.Coffers r) rows is = refl
