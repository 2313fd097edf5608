-- The words of an entry are plain, and none of an action's is `=`.
use Rattle.std.proofs.Common.{◌≡◌, ℕ, List, [], ◌∷◌, ◌++◌, length, Bool, true, false, refl, arith}
use Rattle.std.specs.List.{list_all, AllByRecursion}
use Rattle.std.specs.Prelude.{Option, Some, None, codes}
use Rattle.std.specs.Fmt.{decimal}
use Rattle.tr_types.specs.Permission.{group_ids}
use Rattle.tr_types.specs.declared.action.Action.{Action}
use Rattle.tr_types.specs.declared.action.Action.TheVariants as action
use Rattle.tr_types.specs.declared.action.Answer.{Answer}
use Rattle.tr_types.specs.declared.action.Answer.TheVariants as answer
use Rattle.tr_types.specs.declared.action.FaultKind.{FaultKind}
use Rattle.tr_types.specs.declared.action.FaultKind.TheVariants as fault
use Rattle.tr_types.specs.declared.command.Command.{Command}
use Rattle.tr_types.specs.declared.command.Command.TheVariants as command
use Rattle.tr_types.specs.declared.command.Kind.{Kind}
use Rattle.tr_types.specs.declared.command.Kind.TheVariants as kind
use Rattle.tr_types.specs.declared.command.Reply.{Reply}
use Rattle.tr_types.specs.declared.command.Reply.TheVariants as reply
use Rattle.tr_types.specs.declared.entry.CofferRow.{CofferRow}
use Rattle.tr_types.specs.declared.entry.CofferState.{CofferState}
use Rattle.tr_types.specs.declared.entry.CofferState.TheVariants as state
use Rattle.tr_types.specs.declared.entry.Entry.{Entry}
use Rattle.tr_types.specs.declared.entry.Entry.TheVariants as entry
use Rattle.tr_types.specs.declared.entry.Mark.{Mark}
use Rattle.tr_types.specs.declared.entry.Mark.TheVariants as mark
use Rattle.tr_types.specs.declared.entry.Pick.{Pick}
use Rattle.tr_types.specs.declared.entry.Pick.TheVariants as pick
use Rattle.tr_types.specs.declared.entry.Why.{Why}
use Rattle.tr_types.specs.declared.entry.Why.TheVariants as why
use Rattle.tr_types.specs.declared.kernel_call.FoundAt.{FoundAt}
use Rattle.tr_types.specs.declared.kernel_call.Kcall.{Kcall}
use Rattle.tr_types.specs.declared.kernel_call.Kcall.TheVariants as call
use Rattle.tr_types.specs.declared.kernel_call.KernAnswer.{KernAnswer}
use Rattle.tr_types.specs.declared.kernel_call.KernAnswer.TheVariants as kern
use Rattle.tr_text.specs.Spelling.{thread_name, process_name, mode_text, bit_text, list_text, kind_text, fault_text, mark_text, why_text, state_text}
use Rattle.tr_text.specs.Words.{command_words, reply_words, kcall_words, action_words, found_words, second_words, kern_words, answer_words, pick_words, groups_words, row_words, answered_words, entry_words}
use Rattle.tr_text.specs.Written.{IsNumber, IsThread, IsProcess, IsPath, IsName, AreNumbers, IsLink, IsGuard, IsWrittenCommand, IsWrittenReply, IsWrittenCall, IsWrittenAction, IsWrittenFound, IsWrittenSecond, IsWrittenKern, is_kernel, IsWrittenAnswer, IsWrittenPick, IsWrittenRow, IsWritten}
use Rattle.tr_text.proofs.Reading.{is_equals}
use Rattle.tr_text.proofs.WordLemmas.{is_low, IsPlain, low_is_plain, low_no_equals, number_low, number_plain, name_plain, mode_low, bit_low, share_plain, share_no_equals, right_plain, right_no_equals, list_low, data_plain}
use Rattle.tr_text.proofs.PathLemmas.{name_plain_word, path_plain, path_no_equals}

-- a plain word other than `=`
abbrev pub IsArgument : List ℕ → Type 0
IsArgument word = IsPlain word × (is_equals word ≡ false)

abbrev pub ArePlain : List (List ℕ) → Type 0
ArePlain words = AllByRecursion IsPlain words

abbrev pub AreArguments : List (List ℕ) → Type 0
AreArguments words = AllByRecursion IsArgument words

pub arguments_plain : (words : List (List ℕ)) → AreArguments words → ArePlain words
arguments_plain [] all = tt
arguments_plain (word ∷ words) all = (all.0.0, arguments_plain words all.1)

pub plain_append : (xs ys : List (List ℕ)) → ArePlain xs → ArePlain ys → ArePlain (xs ++ ys)
plain_append [] ys some more = more
plain_append (x ∷ xs) ys some more = (some.0, plain_append xs ys some.1 more)

-- Single words.

low_argument : (word : List ℕ) → list_all is_low word ≡ true → IsArgument word
low_argument word low = (low_is_plain word low, low_no_equals word low)

number_argument : (n : ℕ) → IsNumber n → IsArgument (decimal n)
number_argument n small = low_argument (decimal n) (number_low n small)

path_argument : (path : List ℕ) → IsPath path → IsArgument path
path_argument path is = (path_plain path is, path_no_equals path is)

mode_argument : (mode : ℕ) → IsArgument (mode_text mode)
mode_argument mode = low_argument (mode_text mode) (mode_low mode)

mode_plain : (mode : ℕ) → IsPlain (mode_text mode)
mode_plain mode = (mode_argument mode).0

list_argument : (numbers : List ℕ) → AreNumbers numbers → IsArgument (list_text numbers)
list_argument numbers small = low_argument (list_text numbers) (list_low numbers small)

bit_argument : (bit : Bool) → IsArgument (bit_text bit)
bit_argument bit = low_argument (bit_text bit) (bit_low bit)

pub thread_plain : (thread : ℕ) → IsThread thread → IsPlain (thread_name thread)
thread_plain thread small = name_plain 116 thread (omega arith) (omega arith)

pub process_plain : (process : ℕ) → IsProcess process → IsPlain (process_name process)
process_plain process small = name_plain 112 process (omega arith) (omega arith)

kind_plain : (k : Kind) → IsPlain (kind_text k)
kind_plain kind.File = refl
kind_plain kind.Dir = refl

fault_plain : (f : FaultKind) → IsPlain (fault_text f)
fault_plain fault.NotMapped = refl
fault_plain fault.NotWritable = refl
fault_plain fault.KeyDenied = refl

mark_plain : (m : Mark) → IsPlain (mark_text m)
mark_plain mark.Plain = refl
mark_plain mark.Open = refl
mark_plain mark.Close = refl
mark_plain mark.Take = refl
mark_plain mark.Note = refl
mark_plain mark.Check = refl
mark_plain mark.Point = refl
mark_plain mark.Commit = refl

why_plain : (w : Why) → IsPlain (why_text w)
why_plain why.Dead = refl
why_plain why.Running = refl
why_plain why.Sound = refl
why_plain why.Down = refl
why_plain why.Up = refl
why_plain why.NotKernel = refl
why_plain why.NoThread = refl

state_plain : (s : CofferState) → IsPlain (state_text s)
state_plain state.Ready = refl
state_plain state.Lost = refl
state_plain state.Quarantined = refl

-- Words.

command_plain : (c : Command) → IsWrittenCommand c → ArePlain (command_words c)
command_plain (command.Create path mode) is = (refl, (path_plain path is.0, (mode_plain mode, tt)))
command_plain (command.Stat path) is = (refl, (path_plain path is, tt))

names_plain : (names : List (List ℕ)) → AllByRecursion IsName names → ArePlain names
names_plain [] all = tt
names_plain (name ∷ names) all = (name_plain_word name all.0, names_plain names all.1)

-- one number, two, three
one_plain : (n : ℕ) → IsNumber n → ArePlain (decimal n ∷ [])
one_plain n small = (number_plain n small, tt)

two_plain : (m n : ℕ) → IsNumber m → IsNumber n → ArePlain (decimal m ∷ decimal n ∷ [])
two_plain m n first second = (number_plain m first, one_plain n second)

three_plain : (k m n : ℕ) → IsNumber k → IsNumber m → IsNumber n → ArePlain (decimal k ∷ decimal m ∷ decimal n ∷ [])
three_plain k m n first second third = (number_plain k first, two_plain m n second third)

reply_plain : (r : Reply) → IsWrittenReply r → ArePlain (reply_words r)
reply_plain reply.Made is = (refl, tt)
reply_plain reply.Gone is = (refl, tt)
reply_plain (reply.Wrote count) is = (refl, one_plain count is)
reply_plain reply.Cut is = (refl, tt)
reply_plain (reply.Data bytes) is = (refl, (data_plain bytes, tt))
reply_plain (reply.Info kind size uid gid mode) is = (refl, (kind_plain kind, (number_plain size is.0, (number_plain uid is.1, (number_plain gid is.2, (mode_plain mode, tt))))))
reply_plain (reply.Names names) is = (refl, (number_plain (length names) is.0, names_plain names is.1))
reply_plain reply.Moded is = (refl, tt)
reply_plain reply.Moved is = (refl, tt)
reply_plain (reply.Denied right path) is = (refl, (right_plain right is.0, (path_plain path is.1, tt)))
reply_plain reply.NotFound is = (refl, tt)
reply_plain reply.NotDir is = (refl, tt)
reply_plain reply.Exists is = (refl, tt)
reply_plain reply.IsDir is = (refl, tt)
reply_plain reply.NotEmpty is = (refl, tt)
reply_plain (reply.TooBig end) is = (refl, one_plain end is)
reply_plain reply.TooLong is = (refl, tt)
reply_plain reply.CrossCoffer is = (refl, tt)
reply_plain reply.TooMany is = (refl, tt)
reply_plain (reply.NoSpace need free) is = (refl, two_plain need free is.0 is.1)
reply_plain reply.Quarantined is = (refl, tt)
reply_plain (reply.Busy addr word now) is = (refl, three_plain addr word now is.0 is.1 is.2)
reply_plain (reply.Expired addr word) is = (refl, two_plain addr word is.0 is.1)
reply_plain reply.NoKey is = (refl, tt)
reply_plain (reply.InUse thread) is = (refl, (thread_plain thread is, tt))
reply_plain (reply.Again times) is = (refl, one_plain times is)
reply_plain (reply.Damaged addr) is = (refl, one_plain addr is)

one_argument : (n : ℕ) → IsNumber n → AreArguments (decimal n ∷ [])
one_argument n small = (number_argument n small, tt)

two_arguments : (m n : ℕ) → IsNumber m → IsNumber n → AreArguments (decimal m ∷ decimal n ∷ [])
two_arguments m n first second = (number_argument m first, one_argument n second)

-- a link and a guard
five_arguments : (link : ℕ × ℕ × ℕ) (guard : ℕ × ℕ) → IsLink link → IsGuard guard → AreArguments (decimal link.0 ∷ decimal link.1 ∷ decimal link.2 ∷ decimal guard.0 ∷ decimal guard.1 ∷ [])
five_arguments link guard l g = (number_argument link.0 l.0, (number_argument link.1 l.1, (number_argument link.2 l.2, two_arguments guard.0 guard.1 g.0 g.1)))

pub call_arguments : (c : Kcall) → IsWrittenCall c → AreArguments (kcall_words c)
call_arguments (call.Find path None) is = ((refl, refl), (path_argument path is.0, tt))
call_arguments (call.Find path (Some also)) is = ((refl, refl), (path_argument path is.0, (path_argument also is.1, tt)))
call_arguments (call.Map path right exclusive) is = ((refl, refl), (path_argument path is.0, ((right_plain right is.1, right_no_equals right is.1), ((share_plain exclusive, share_no_equals exclusive), tt))))
call_arguments (call.Unmap id) is = ((refl, refl), one_argument id is)
call_arguments (call.New parent path kind mode link guard) is =
    ((refl, refl), (number_argument parent is.0, (path_argument path is.1, (number_argument kind is.2, (mode_argument mode, five_arguments link guard is.4 is.5)))))
call_arguments (call.Delete id parent link guard) is = ((refl, refl), (number_argument id is.0, (number_argument parent is.1, five_arguments link guard is.2 is.3)))
call_arguments (call.Enlarge id count) is = ((refl, refl), two_arguments id count is.0 is.1)
call_arguments (call.Shrink id pages guard) is = ((refl, refl), (number_argument id is.0, (list_argument pages is.1, two_arguments guard.0 guard.1 is.2.0 is.2.1)))
call_arguments (call.Split id path pages mode link guard) is =
    ((refl, refl), (number_argument id is.0, (path_argument path is.1, (list_argument pages is.2, (mode_argument mode, five_arguments link guard is.4 is.5)))))
call_arguments (call.Merge child parent pages link guard) is = ((refl, refl), (number_argument child is.0, (number_argument parent is.1, (list_argument pages is.2, five_arguments link guard is.3 is.4))))
call_arguments (call.Mode id mode) is = ((refl, refl), (number_argument id is.0, (mode_argument mode, tt)))
call_arguments (call.Recover id ready) is = ((refl, refl), (number_argument id is, (bit_argument ready, tt)))

pub action_arguments : (a : Action) → IsWrittenAction a → AreArguments (action_words a)
action_arguments (action.Load addr) is = ((refl, refl), one_argument addr is)
action_arguments (action.Store addr word) is = ((refl, refl), two_arguments addr word is.0 is.1)
action_arguments (action.Cas addr old new) is = ((refl, refl), (number_argument addr is.0, two_arguments old new is.1 is.2))
action_arguments (action.Flush addr) is = ((refl, refl), one_argument addr is)
action_arguments action.Fence is = ((refl, refl), tt)
action_arguments (action.Pkru pkru) is = ((refl, refl), one_argument pkru is)
action_arguments (action.Kernel kcall) is = ((refl, refl), call_arguments kcall is)

call_plain : (c : Kcall) → IsWrittenCall c → ArePlain (kcall_words c)
call_plain c is = arguments_plain (kcall_words c) (call_arguments c is)

action_plain : (a : Action) → IsWrittenAction a → ArePlain (action_words a)
action_plain a is = arguments_plain (action_words a) (action_arguments a is)

found_plain : (f : FoundAt) → IsWrittenFound f → ArePlain (found_words f)
found_plain f is = (refl, (number_plain f.id is.0, ((bit_argument f.exact).0, one_plain f.path_len is.1)))

second_plain : (second : Option FoundAt) → IsWrittenSecond second → ArePlain (second_words second)
second_plain None is = tt
second_plain (Some f) is = found_plain f is

kern_plain : (k : KernAnswer) → IsWrittenKern k → ArePlain (kern_words k)
kern_plain kern.Done is = (refl, tt)
kern_plain kern.Same is = (refl, tt)
kern_plain (kern.Found first second) is = plain_append (found_words first) (second_words second) (found_plain first is.0) (second_plain second is.1)
kern_plain (kern.Mapped m) is =
    (refl, (number_plain m.id is.0, (number_plain m.key is.1, (number_plain m.control is.2, (number_plain m.root is.3, two_plain m.pages m.path_len is.4 is.5)))))
kern_plain (kern.Made id) is = (refl, one_plain id is)
kern_plain (kern.Pages pages) is = (refl, ((list_argument pages is).0, tt))
kern_plain kern.NotHeld is = (refl, (refl, tt))
kern_plain kern.BadPath is = (refl, (refl, tt))
kern_plain (kern.Denied right id path_len) is = (refl, (refl, (right_plain right is, tt)))
kern_plain (kern.Quarantined id path_len) is = (refl, (refl, tt))
kern_plain (kern.InUse thread id path_len) is = (refl, (refl, (thread_plain thread is, tt)))
kern_plain (kern.NoKey id path_len) is = (refl, (refl, tt))
kern_plain (kern.NotYours page) is = (refl, (refl, one_plain page is))
kern_plain (kern.GuardFailed addr word) is = (refl, (refl, two_plain addr word is.0 is.1))
kern_plain (kern.LinkDiffers addr word) is = (refl, (refl, two_plain addr word is.0 is.1))
kern_plain kern.Taken is = (refl, (refl, tt))
kern_plain kern.TooMany is = (refl, (refl, tt))
kern_plain (kern.NoPages asked free) is = (refl, (refl, two_plain asked free is.0 is.1))
kern_plain kern.NoCoffer is = (refl, (refl, tt))
kern_plain kern.NotEmptyList is = (refl, (refl, tt))
kern_plain kern.BadCount is = (refl, (refl, tt))
kern_plain kern.NoMemory is = (refl, (refl, tt))

answer_plain : (kernel : Bool) (a : Answer) → IsWrittenAnswer kernel a → ArePlain (answer_words a)
answer_plain true (answer.Kern k) is = kern_plain k is
answer_plain true (answer.Word word) is = absurd is
answer_plain true answer.Done is = absurd is
answer_plain true (answer.Fault f) is = absurd is
answer_plain false (answer.Kern k) is = absurd is
answer_plain false (answer.Word word) is = (refl, one_plain word is)
answer_plain false answer.Done is = (refl, tt)
answer_plain false (answer.Fault f) is = (refl, (fault_plain f, tt))

answered_plain : (a : Action) (b : Answer) → IsWrittenAction a → IsWrittenAnswer (is_kernel a) b → ArePlain (answered_words a b)
answered_plain a b is told = plain_append (action_words a) (codes "=" ∷ answer_words b) (action_plain a is) (refl, answer_plain (is_kernel a) b told)

pick_plain : (p : Pick) → IsWrittenPick p → ArePlain (pick_words p)
pick_plain pick.All is = (refl, tt)
pick_plain pick.None is = (refl, tt)
pick_plain (pick.Seed seed) is = (refl, one_plain seed is)

groups_plain : (ids : List ℕ) → AreNumbers ids → ArePlain (groups_words ids)
groups_plain [] is = tt
groups_plain (id ∷ ids) is = ((list_argument (id ∷ ids) is).0, tt)

pub row_plain : (row : CofferRow) → IsWrittenRow row → ArePlain (row_words row)
row_plain row is = (refl, (path_plain row.path is.0, (number_plain row.perm.uid is.1, (number_plain row.perm.gid is.2, (mode_plain row.perm.mode, (state_plain row.state, tt))))))

pub entry_plain : (e : Entry) → IsWritten e → ArePlain (entry_words e)
entry_plain (entry.Mkfs pages) is = (refl, one_plain pages is)
entry_plain (entry.Process process cred) is =
    (refl, (process_plain process is.0, (number_plain cred.uid is.1.0, (number_plain cred.gid is.1.1, groups_plain (group_ids cred.groups) is.1.2))))
entry_plain (entry.Thread thread process) is = (refl, (thread_plain thread is.0, (process_plain process is.1, tt)))
entry_plain (entry.Tick ticks) is = (refl, one_plain ticks is)
entry_plain (entry.Call thread command) is = (thread_plain thread is.0, (refl, command_plain command is.1))
entry_plain (entry.Act thread now mark action answer) is = (thread_plain thread is.0, (number_plain now is.1, (mark_plain mark, answered_plain action answer is.2 is.3)))
entry_plain (entry.Reply thread reply) is = (thread_plain thread is.0, (refl, reply_plain reply is.1))
entry_plain (entry.Stray thread addr word answer) is = (thread_plain thread is.0, (refl, (number_plain addr is.1, (number_plain word is.2, (refl, answer_plain false answer is.3)))))
entry_plain (entry.Wild thread now action answer) is = (thread_plain thread is.0, (refl, (number_plain now is.1, answered_plain action answer is.2 is.3)))
entry_plain (entry.Corrupt process) is = (process_plain process is, (refl, tt))
entry_plain (entry.Kill process) is = (process_plain process is, (refl, tt))
entry_plain (entry.Crash pick) is = (refl, pick_plain pick is)
entry_plain (entry.CrashIn thread now kcall k pick) is =
    (refl, (thread_plain thread is.0, (number_plain now is.1, (number_plain k is.3, plain_append (pick_words pick) (kcall_words kcall) (pick_plain pick is.4) (call_plain kcall is.2)))))
entry_plain (entry.Recovery action) is = (refl, action_plain action is)
entry_plain (entry.Recovered ready quarantined) is = (refl, two_plain ready quarantined is.0 is.1)
entry_plain (entry.Lost path) is = (refl, (path_plain path is, tt))
entry_plain (entry.Skip line why) is = (refl, (number_plain line is, (why_plain why, tt)))
entry_plain (entry.Quarantine path) is = (refl, (path_plain path is, tt))
entry_plain (entry.Coffers rows) is = (refl, one_plain (length rows) is.0)
