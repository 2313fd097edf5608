-- How the parts of an entry are spelled, in words. Numbers are decimal.
use Rattle.std.specs.Prelude.{ℕ, ⊤, List, [], ◌∷◌, ◌++◌, length, Option, Some, None, codes}
use Rattle.std.specs.Fmt.{decimal}
use Rattle.tr_types.specs.Permission.{group_ids}
use Rattle.tr_types.specs.declared.action.Action.{Action}
use Rattle.tr_types.specs.declared.action.Action.TheVariants as action
use Rattle.tr_types.specs.declared.action.Answer.{Answer}
use Rattle.tr_types.specs.declared.action.Answer.TheVariants as answer
use Rattle.tr_types.specs.declared.command.Command.{Command}
use Rattle.tr_types.specs.declared.command.Command.TheVariants as command
use Rattle.tr_types.specs.declared.command.Reply.{Reply}
use Rattle.tr_types.specs.declared.command.Reply.TheVariants as reply
use Rattle.tr_types.specs.declared.entry.CofferRow.{CofferRow}
use Rattle.tr_types.specs.declared.entry.Entry.{Entry}
use Rattle.tr_types.specs.declared.entry.Entry.TheVariants as entry
use Rattle.tr_types.specs.declared.entry.Pick.{Pick}
use Rattle.tr_types.specs.declared.entry.Pick.TheVariants as pick
use Rattle.tr_types.specs.declared.kernel_call.FoundAt.{FoundAt}
use Rattle.tr_types.specs.declared.kernel_call.Kcall.{Kcall}
use Rattle.tr_types.specs.declared.kernel_call.Kcall.TheVariants as call
use Rattle.tr_types.specs.declared.kernel_call.KernAnswer.{KernAnswer}
use Rattle.tr_types.specs.declared.kernel_call.KernAnswer.TheVariants as kern
use Rattle.tr_text.specs.Spelling.{process_name, thread_name, mode_text, bit_text, list_text, kind_text, right_text, share_text, data_text, fault_text, mark_text, why_text, state_text}

-- no word, or one
abbrev pub maybe_word : Option (List ℕ) → List (List ℕ)
maybe_word None = []
maybe_word (Some word) = word ∷ []

abbrev pub command_words : Command → List (List ℕ)
command_words (command.Create path mode) = codes "create" ∷ path ∷ mode_text mode ∷ []
command_words (command.Stat path) = codes "stat" ∷ path ∷ []

abbrev pub reply_words : Reply → List (List ℕ)
reply_words reply.Made = codes "made" ∷ []
reply_words reply.Gone = codes "gone" ∷ []
reply_words (reply.Wrote count) = codes "wrote" ∷ decimal count ∷ []
reply_words reply.Cut = codes "cut" ∷ []
reply_words (reply.Data bytes) = codes "data" ∷ data_text bytes ∷ []
reply_words (reply.Info kind size uid gid mode) = codes "info" ∷ kind_text kind ∷ decimal size ∷ decimal uid ∷ decimal gid ∷ mode_text mode ∷ []
reply_words (reply.Names names) = codes "names" ∷ decimal (length names) ∷ names
reply_words reply.Moded = codes "moded" ∷ []
reply_words reply.Moved = codes "moved" ∷ []
reply_words (reply.Denied right path) = codes "denied" ∷ right_text right ∷ path ∷ []
reply_words reply.NotFound = codes "notfound" ∷ []
reply_words reply.NotDir = codes "notdir" ∷ []
reply_words reply.Exists = codes "exists" ∷ []
reply_words reply.IsDir = codes "isdir" ∷ []
reply_words reply.NotEmpty = codes "notempty" ∷ []
reply_words (reply.TooBig end) = codes "toobig" ∷ decimal end ∷ []
reply_words reply.TooLong = codes "toolong" ∷ []
reply_words reply.CrossCoffer = codes "crosscoffer" ∷ []
reply_words reply.TooMany = codes "toomany" ∷ []
reply_words (reply.NoSpace need free) = codes "nospace" ∷ decimal need ∷ decimal free ∷ []
reply_words reply.Quarantined = codes "quarantined" ∷ []
reply_words (reply.Busy addr word now) = codes "busy" ∷ decimal addr ∷ decimal word ∷ decimal now ∷ []
reply_words (reply.Expired addr word) = codes "expired" ∷ decimal addr ∷ decimal word ∷ []
reply_words reply.NoKey = codes "nokey" ∷ []
reply_words (reply.InUse thread) = codes "inuse" ∷ thread_name thread ∷ []
reply_words (reply.Again times) = codes "again" ∷ decimal times ∷ []
reply_words (reply.Damaged addr) = codes "damaged" ∷ decimal addr ∷ []

-- A link is an address with the word before and the word after; a guard an address with its word.
abbrev pub kcall_words : Kcall → List (List ℕ)
kcall_words (call.Find path also) = codes "find" ∷ path ∷ maybe_word also
kcall_words (call.Map path right exclusive) = codes "map" ∷ path ∷ right_text right ∷ share_text exclusive ∷ []
kcall_words (call.Unmap id) = codes "unmap" ∷ decimal id ∷ []
kcall_words (call.New parent path kind mode link guard) = codes "new" ∷ decimal parent ∷ path ∷ decimal kind ∷ mode_text mode ∷ decimal link.0 ∷ decimal link.1 ∷ decimal link.2 ∷ decimal guard.0 ∷ decimal guard.1 ∷ []
kcall_words (call.Delete id parent link guard) = codes "delete" ∷ decimal id ∷ decimal parent ∷ decimal link.0 ∷ decimal link.1 ∷ decimal link.2 ∷ decimal guard.0 ∷ decimal guard.1 ∷ []
kcall_words (call.Enlarge id count) = codes "enlarge" ∷ decimal id ∷ decimal count ∷ []
kcall_words (call.Shrink id pages guard) = codes "shrink" ∷ decimal id ∷ list_text pages ∷ decimal guard.0 ∷ decimal guard.1 ∷ []
kcall_words (call.Split id path pages mode link guard) = codes "split" ∷ decimal id ∷ path ∷ list_text pages ∷ mode_text mode ∷ decimal link.0 ∷ decimal link.1 ∷ decimal link.2 ∷ decimal guard.0 ∷ decimal guard.1 ∷ []
kcall_words (call.Merge child parent pages link guard) = codes "merge" ∷ decimal child ∷ decimal parent ∷ list_text pages ∷ decimal link.0 ∷ decimal link.1 ∷ decimal link.2 ∷ decimal guard.0 ∷ decimal guard.1 ∷ []
kcall_words (call.Mode id mode) = codes "mode" ∷ decimal id ∷ mode_text mode ∷ []
kcall_words (call.Recover id ready) = codes "recover" ∷ decimal id ∷ bit_text ready ∷ []

-- a coffer comes by the call
abbrev pub IsComing : Kcall → Type 0
IsComing (call.New parent path kind mode link guard) = ⊤
IsComing (call.Split id path pages mode link guard) = ⊤
IsComing kcall = ⊥

-- a coffer goes by it
abbrev pub IsGoing : Kcall → Type 0
IsGoing (call.Delete id parent link guard) = ⊤
IsGoing (call.Merge child parent pages link guard) = ⊤
IsGoing kcall = ⊥

abbrev pub action_words : Action → List (List ℕ)
action_words (action.Load addr) = codes "load" ∷ decimal addr ∷ []
action_words (action.Store addr word) = codes "store" ∷ decimal addr ∷ decimal word ∷ []
action_words (action.Cas addr old new) = codes "cas" ∷ decimal addr ∷ decimal old ∷ decimal new ∷ []
action_words (action.Flush addr) = codes "flush" ∷ decimal addr ∷ []
action_words action.Fence = codes "fence" ∷ []
action_words (action.Pkru pkru) = codes "pkru" ∷ decimal pkru ∷ []
action_words (action.Kernel kcall) = codes "kernel" ∷ kcall_words kcall

-- of a coffer that was found: its number, whether the path is its own, the length of its path
abbrev pub found_words : FoundAt → List (List ℕ)
found_words found = codes "found" ∷ decimal found.id ∷ bit_text found.exact ∷ decimal found.path_len ∷ []

abbrev pub second_words : Option FoundAt → List (List ℕ)
second_words None = []
second_words (Some found) = found_words found

abbrev pub kern_words : KernAnswer → List (List ℕ)
kern_words kern.Done = codes "done" ∷ []
kern_words kern.Same = codes "same" ∷ []
kern_words (kern.Found first second) = found_words first ++ second_words second
kern_words (kern.Mapped mapped) = codes "mapped" ∷ decimal mapped.id ∷ decimal mapped.key ∷ decimal mapped.control ∷ decimal mapped.root ∷ decimal mapped.pages ∷ decimal mapped.path_len ∷ []
kern_words (kern.Made id) = codes "made" ∷ decimal id ∷ []
kern_words (kern.Pages pages) = codes "pages" ∷ list_text pages ∷ []
kern_words kern.NotHeld = codes "refused" ∷ codes "notheld" ∷ []
kern_words kern.BadPath = codes "refused" ∷ codes "badpath" ∷ []
kern_words (kern.Denied right id path_len) = codes "refused" ∷ codes "denied" ∷ right_text right ∷ []
kern_words (kern.Quarantined id path_len) = codes "refused" ∷ codes "quarantined" ∷ []
kern_words (kern.InUse thread id path_len) = codes "refused" ∷ codes "inuse" ∷ thread_name thread ∷ []
kern_words (kern.NoKey id path_len) = codes "refused" ∷ codes "nokey" ∷ []
kern_words (kern.NotYours page) = codes "refused" ∷ codes "notyours" ∷ decimal page ∷ []
kern_words (kern.GuardFailed addr word) = codes "refused" ∷ codes "guard" ∷ decimal addr ∷ decimal word ∷ []
kern_words (kern.LinkDiffers addr word) = codes "refused" ∷ codes "link" ∷ decimal addr ∷ decimal word ∷ []
kern_words kern.Taken = codes "refused" ∷ codes "taken" ∷ []
kern_words kern.TooMany = codes "refused" ∷ codes "toomany" ∷ []
kern_words (kern.NoPages asked free) = codes "refused" ∷ codes "nopages" ∷ decimal asked ∷ decimal free ∷ []
kern_words kern.NoCoffer = codes "refused" ∷ codes "nocoffer" ∷ []
kern_words kern.NotEmptyList = codes "refused" ∷ codes "notempty" ∷ []
kern_words kern.BadCount = codes "refused" ∷ codes "badcount" ∷ []
kern_words kern.NoMemory = codes "refused" ∷ codes "nomemory" ∷ []

abbrev pub answer_words : Answer → List (List ℕ)
answer_words (answer.Word word) = codes "word" ∷ decimal word ∷ []
answer_words answer.Done = codes "done" ∷ []
answer_words (answer.Fault fault) = codes "fault" ∷ fault_text fault ∷ []
answer_words (answer.Kern kern) = kern_words kern

abbrev pub pick_words : Pick → List (List ℕ)
pick_words pick.All = codes "all" ∷ []
pick_words pick.None = codes "none" ∷ []
pick_words (pick.Seed seed) = codes "seed" ∷ decimal seed ∷ []

-- further groups, where there are any
abbrev pub groups_words : List ℕ → List (List ℕ)
groups_words [] = []
groups_words (id ∷ ids) = list_text (id ∷ ids) ∷ []

abbrev pub row_words : CofferRow → List (List ℕ)
row_words row = codes "coffer" ∷ row.path ∷ decimal row.perm.uid ∷ decimal row.perm.gid ∷ mode_text row.perm.mode ∷ state_text row.state ∷ []

-- an action and its answer
abbrev pub answered_words : Action → Answer → List (List ℕ)
answered_words action answer = action_words action ++ codes "=" ∷ answer_words answer

-- the first line of an entry
abbrev pub entry_words : Entry → List (List ℕ)
entry_words (entry.Mkfs pages) = codes "mkfs" ∷ decimal pages ∷ []
entry_words (entry.Process process cred) = codes "new" ∷ process_name process ∷ decimal cred.uid ∷ decimal cred.gid ∷ groups_words (group_ids cred.groups)
entry_words (entry.Thread thread process) = codes "new" ∷ thread_name thread ∷ process_name process ∷ []
entry_words (entry.Tick ticks) = codes "tick" ∷ decimal ticks ∷ []
entry_words (entry.Call thread command) = thread_name thread ∷ codes "call" ∷ command_words command
entry_words (entry.Act thread now mark action answer) = thread_name thread ∷ decimal now ∷ mark_text mark ∷ answered_words action answer
entry_words (entry.Reply thread reply) = thread_name thread ∷ codes "reply" ∷ reply_words reply
entry_words (entry.Stray thread addr word answer) = thread_name thread ∷ codes "stray" ∷ decimal addr ∷ decimal word ∷ codes "=" ∷ answer_words answer
entry_words (entry.Wild thread now action answer) = thread_name thread ∷ codes "wild" ∷ decimal now ∷ answered_words action answer
entry_words (entry.Corrupt process) = process_name process ∷ codes "corrupt" ∷ []
entry_words (entry.Kill process) = process_name process ∷ codes "killed" ∷ []
entry_words (entry.Crash pick) = codes "crash" ∷ pick_words pick
entry_words (entry.CrashIn thread now kcall k pick) = codes "crashin" ∷ thread_name thread ∷ decimal now ∷ decimal k ∷ pick_words pick ++ kcall_words kcall
entry_words (entry.Recovery action) = codes "r" ∷ action_words action
entry_words (entry.Recovered ready quarantined) = codes "recovered" ∷ decimal ready ∷ decimal quarantined ∷ []
entry_words (entry.Lost path) = codes "lost" ∷ path ∷ []
entry_words (entry.Skip line why) = codes "skip" ∷ decimal line ∷ why_text why ∷ []
entry_words (entry.Quarantine path) = codes "quarantined" ∷ path ∷ []
entry_words (entry.Coffers rows) = codes "coffers" ∷ decimal (length rows) ∷ []
