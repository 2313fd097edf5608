-- How texts are read back. Each reader is total, and gives anything for what isn't a text.
use Rattle.std.proofs.Common.{ℕ, ◌+◌, ◌-◌, ◌*◌, List, [], ◌∷◌, map, take, drop, Bool, true, false, cond, eqb, ltb}
use Rattle.std.specs.Prelude.{Option, Some, None, codes, slice_index_or}
use Rattle.std.specs.List.{slice_split}
use Rattle.std.specs.Str.Parse.{digits_value}
use Rattle.tr_types.specs.Paths.{same_text}
use Rattle.tr_types.specs.Permission.{groups_of}
use Rattle.tr_types.specs.Shown.{no_perm}
use Rattle.tr_types.specs.declared.action.Action.{Action}
use Rattle.tr_types.specs.declared.action.Action.TheVariants as action
use Rattle.tr_types.specs.declared.action.Answer.{Answer}
use Rattle.tr_types.specs.declared.action.Answer.TheVariants as answer
use Rattle.tr_types.specs.declared.action.FaultKind.{FaultKind}
use Rattle.tr_types.specs.declared.action.FaultKind.TheVariants as fault
use Rattle.tr_types.specs.declared.command.Command.{Command}
use Rattle.tr_types.specs.declared.command.Command.TheVariants as command
use Rattle.tr_types.specs.declared.command.Kind.{Kind}
use Rattle.tr_types.specs.declared.command.Kind.TheVariants as kind
use Rattle.tr_types.specs.declared.command.Reply.{Reply}
use Rattle.tr_types.specs.declared.command.Reply.TheVariants as reply
use Rattle.tr_types.specs.declared.entry.CofferRow.{CofferRow}
use Rattle.tr_types.specs.declared.entry.CofferState.{CofferState}
use Rattle.tr_types.specs.declared.entry.CofferState.TheVariants as state
use Rattle.tr_types.specs.declared.entry.Entry.{Entry}
use Rattle.tr_types.specs.declared.entry.Entry.TheVariants as entry
use Rattle.tr_types.specs.declared.entry.Mark.{Mark}
use Rattle.tr_types.specs.declared.entry.Mark.TheVariants as mark
use Rattle.tr_types.specs.declared.entry.Pick.{Pick}
use Rattle.tr_types.specs.declared.entry.Pick.TheVariants as pick
use Rattle.tr_types.specs.declared.entry.Why.{Why}
use Rattle.tr_types.specs.declared.entry.Why.TheVariants as why
use Rattle.tr_types.specs.declared.kernel_call.FoundAt.{FoundAt}
use Rattle.tr_types.specs.declared.kernel_call.Kcall.{Kcall}
use Rattle.tr_types.specs.declared.kernel_call.Kcall.TheVariants as call
use Rattle.tr_types.specs.declared.kernel_call.KernAnswer.{KernAnswer}
use Rattle.tr_types.specs.declared.kernel_call.KernAnswer.TheVariants as kern
use Rattle.tr_types.specs.declared.permission.Right.{Right}

-- The parts of a text.

abbrev pub parts_at : ℕ → List ℕ → List (List ℕ)
parts_at separator text = slice_split (λ byte. eqb byte separator) text

abbrev pub word_at : ℕ → List (List ℕ) → List ℕ
word_at k words = slice_index_or words k []

abbrev pub byte_at : ℕ → List ℕ → ℕ
byte_at k word = slice_index_or word k 255

-- the value that stands beside a word
abbrev pub choose : {A : Type 0} → List ℕ → List (List ℕ × A) → A → A
choose word [] other = other
choose word (row ∷ rows) other = cond (same_text word row.0) row.1 (choose word rows other)

abbrev pub is_equals : List ℕ → Bool
is_equals word = same_text word (codes "=")

-- the words before `=`, and those behind it
abbrev pub before_equals : List (List ℕ) → List (List ℕ)
before_equals [] = []
before_equals (word ∷ words) = cond (is_equals word) [] (word ∷ before_equals words)

abbrev pub behind_equals : List (List ℕ) → List (List ℕ)
behind_equals [] = []
behind_equals (word ∷ words) = cond (is_equals word) words (behind_equals words)

-- Single words.

abbrev pub read_number : List ℕ → ℕ
read_number word = digits_value 10 word

abbrev pub number_at : ℕ → List (List ℕ) → ℕ
number_at k words = read_number (word_at k words)

-- a process or a thread: a letter, and a number counted from 1
abbrev pub read_name : List ℕ → ℕ
read_name word = read_number (drop 1 word) - 1

abbrev pub read_mode : List ℕ → ℕ
read_mode word = (byte_at 0 word - 48) * 64 + (byte_at 1 word - 48) * 8 + (byte_at 2 word - 48)

abbrev pub read_bit : List ℕ → Bool
read_bit word = same_text word (codes "1")

abbrev pub read_share : List ℕ → Bool
read_share word = same_text word (codes "exclusive")

abbrev pub read_right : List ℕ → Right
read_right word = choose word ((codes "read", record { 0 = 1 }) ∷ (codes "write", record { 0 = 2 }) ∷ []) (record { 0 = 4 })

abbrev pub read_list : List ℕ → List ℕ
read_list [] = []
read_list (byte ∷ word) = map read_number (parts_at 44 (byte ∷ word))

abbrev pub hex_value : ℕ → ℕ
hex_value digit = cond (ltb digit 58) (digit - 48) (digit - 87)

abbrev pub read_pairs : List ℕ → List ℕ
read_pairs (high ∷ low ∷ digits) = (hex_value high * 16 + hex_value low) ∷ read_pairs digits
read_pairs digits = []

abbrev pub read_data : List ℕ → List ℕ
read_data word = cond (same_text word (codes "-")) [] (read_pairs word)

abbrev pub read_kind : List ℕ → Kind
read_kind word = choose word ((codes "file", kind.File) ∷ []) kind.Dir

abbrev pub read_fault : List ℕ → FaultKind
read_fault word = choose word ((codes "unmapped", fault.NotMapped) ∷ (codes "readonly", fault.NotWritable) ∷ []) fault.KeyDenied

abbrev pub read_mark : List ℕ → Mark
read_mark word =
    choose word ((codes "plain", mark.Plain) ∷ (codes "open", mark.Open) ∷ (codes "close", mark.Close) ∷ (codes "take", mark.Take) ∷ (codes "note", mark.Note) ∷ (codes "check", mark.Check) ∷ (codes "point", mark.Point) ∷ []) mark.Commit

abbrev pub read_why : List ℕ → Why
read_why word =
    choose word ((codes "dead", why.Dead) ∷ (codes "running", why.Running) ∷ (codes "sound", why.Sound) ∷ (codes "down", why.Down) ∷ (codes "up", why.Up) ∷ (codes "notkernel", why.NotKernel) ∷ []) why.NoThread

abbrev pub read_state : List ℕ → CofferState
read_state word = choose word ((codes "ready", state.Ready) ∷ (codes "lost", state.Lost) ∷ []) state.Quarantined

abbrev pub first_of : List (List ℕ) → Option (List ℕ)
first_of [] = None
first_of (word ∷ words) = Some word

-- Words.

abbrev pub read_command : List (List ℕ) → Command
read_command words = choose (word_at 0 words) ((codes "create", command.Create (word_at 1 words) (read_mode (word_at 2 words))) ∷ []) (command.Stat (word_at 1 words))

abbrev pub read_reply : List (List ℕ) → Reply
read_reply words =
    choose (word_at 0 words)
    ((codes "made", reply.Made) ∷ (codes "gone", reply.Gone) ∷ (codes "wrote", reply.Wrote (number_at 1 words)) ∷ (codes "cut", reply.Cut) ∷ (codes "data", reply.Data (read_data (word_at 1 words)))
    ∷ (codes "info", reply.Info (read_kind (word_at 1 words)) (number_at 2 words) (number_at 3 words) (number_at 4 words) (read_mode (word_at 5 words)))
    ∷ (codes "names", reply.Names (drop 2 words)) ∷ (codes "moded", reply.Moded) ∷ (codes "moved", reply.Moved) ∷ (codes "denied", reply.Denied (read_right (word_at 1 words)) (word_at 2 words))
    ∷ (codes "notfound", reply.NotFound) ∷ (codes "notdir", reply.NotDir) ∷ (codes "exists", reply.Exists) ∷ (codes "isdir", reply.IsDir) ∷ (codes "notempty", reply.NotEmpty)
    ∷ (codes "toobig", reply.TooBig (number_at 1 words)) ∷ (codes "toolong", reply.TooLong) ∷ (codes "crosscoffer", reply.CrossCoffer) ∷ (codes "toomany", reply.TooMany)
    ∷ (codes "nospace", reply.NoSpace (number_at 1 words) (number_at 2 words)) ∷ (codes "quarantined", reply.Quarantined)
    ∷ (codes "busy", reply.Busy (number_at 1 words) (number_at 2 words) (number_at 3 words)) ∷ (codes "expired", reply.Expired (number_at 1 words) (number_at 2 words)) ∷ (codes "nokey", reply.NoKey)
    ∷ (codes "inuse", reply.InUse (read_name (word_at 1 words))) ∷ (codes "again", reply.Again (number_at 1 words)) ∷ [])
    (reply.Damaged (number_at 1 words))

-- three numbers from a place on, and two
abbrev pub link_at : ℕ → List (List ℕ) → ℕ × ℕ × ℕ
link_at k words = (number_at k words, number_at (k + 1) words, number_at (k + 2) words)

abbrev pub guard_at : ℕ → List (List ℕ) → ℕ × ℕ
guard_at k words = (number_at k words, number_at (k + 1) words)

abbrev pub read_call : List (List ℕ) → Kcall
read_call words =
    choose (word_at 0 words)
    ((codes "find", call.Find (word_at 1 words) (first_of (drop 2 words))) ∷ (codes "map", call.Map (word_at 1 words) (read_right (word_at 2 words)) (read_share (word_at 3 words)))
    ∷ (codes "unmap", call.Unmap (number_at 1 words))
    ∷ (codes "new", call.New (number_at 1 words) (word_at 2 words) (number_at 3 words) (read_mode (word_at 4 words)) (link_at 5 words) (guard_at 8 words))
    ∷ (codes "delete", call.Delete (number_at 1 words) (number_at 2 words) (link_at 3 words) (guard_at 6 words)) ∷ (codes "enlarge", call.Enlarge (number_at 1 words) (number_at 2 words))
    ∷ (codes "shrink", call.Shrink (number_at 1 words) (read_list (word_at 2 words)) (guard_at 3 words))
    ∷ (codes "split", call.Split (number_at 1 words) (word_at 2 words) (read_list (word_at 3 words)) (read_mode (word_at 4 words)) (link_at 5 words) (guard_at 8 words))
    ∷ (codes "merge", call.Merge (number_at 1 words) (number_at 2 words) (read_list (word_at 3 words)) (link_at 4 words) (guard_at 7 words))
    ∷ (codes "mode", call.Mode (number_at 1 words) (read_mode (word_at 2 words))) ∷ [])
    (call.Recover (number_at 1 words) (read_bit (word_at 2 words)))

abbrev pub read_action : List (List ℕ) → Action
read_action words =
    choose (word_at 0 words)
    ((codes "load", action.Load (number_at 1 words)) ∷ (codes "store", action.Store (number_at 1 words) (number_at 2 words)) ∷ (codes "cas", action.Cas (number_at 1 words) (number_at 2 words) (number_at 3 words))
    ∷ (codes "flush", action.Flush (number_at 1 words)) ∷ (codes "fence", action.Fence) ∷ (codes "pkru", action.Pkru (number_at 1 words)) ∷ [])
    (action.Kernel (read_call (drop 1 words)))

abbrev pub read_found : List (List ℕ) → FoundAt
read_found words = record { id = number_at 1 words; exact = read_bit (word_at 2 words); path_len = number_at 3 words; perm = no_perm }

abbrev pub read_second : List (List ℕ) → Option FoundAt
read_second [] = None
read_second (word ∷ words) = Some (read_found (word ∷ words))

-- what follows `refused`
abbrev pub read_refusal : List (List ℕ) → KernAnswer
read_refusal words =
    choose (word_at 0 words)
    ((codes "notheld", kern.NotHeld) ∷ (codes "badpath", kern.BadPath) ∷ (codes "denied", kern.Denied (read_right (word_at 1 words)) 0 0) ∷ (codes "quarantined", kern.Quarantined 0 0)
    ∷ (codes "inuse", kern.InUse (read_name (word_at 1 words)) 0 0) ∷ (codes "nokey", kern.NoKey 0 0) ∷ (codes "notyours", kern.NotYours (number_at 1 words))
    ∷ (codes "guard", kern.GuardFailed (number_at 1 words) (number_at 2 words)) ∷ (codes "link", kern.LinkDiffers (number_at 1 words) (number_at 2 words)) ∷ (codes "taken", kern.Taken)
    ∷ (codes "toomany", kern.TooMany) ∷ (codes "nopages", kern.NoPages (number_at 1 words) (number_at 2 words)) ∷ (codes "nocoffer", kern.NoCoffer) ∷ (codes "notempty", kern.NotEmptyList)
    ∷ (codes "badcount", kern.BadCount) ∷ [])
    kern.NoMemory

abbrev pub read_kern : List (List ℕ) → KernAnswer
read_kern words =
    choose (word_at 0 words)
    ((codes "done", kern.Done) ∷ (codes "same", kern.Same) ∷ (codes "found", kern.Found (read_found words) (read_second (drop 4 words)))
    ∷ (codes "mapped", kern.Mapped (record { id = number_at 1 words; key = number_at 2 words; control = number_at 3 words; root = number_at 4 words; pages = number_at 5 words; path_len = number_at 6 words; perm = no_perm }))
    ∷ (codes "made", kern.Made (number_at 1 words)) ∷ (codes "pages", kern.Pages (read_list (word_at 1 words))) ∷ [])
    (read_refusal (drop 1 words))

-- the answer to an action: the kernel's, or the machine's own
abbrev pub read_answer : Bool → List (List ℕ) → Answer
read_answer true words = answer.Kern (read_kern words)
read_answer false words = choose (word_at 0 words) ((codes "word", answer.Word (number_at 1 words)) ∷ (codes "done", answer.Done) ∷ []) (answer.Fault (read_fault (word_at 1 words)))

abbrev pub read_pick : List (List ℕ) → Pick
read_pick words = choose (word_at 0 words) ((codes "all", pick.All) ∷ (codes "none", pick.None) ∷ []) (pick.Seed (number_at 1 words))

abbrev pub behind_pick : List (List ℕ) → List (List ℕ)
behind_pick words = choose (word_at 0 words) ((codes "seed", drop 2 words) ∷ []) (drop 1 words)

abbrev pub read_groups : List (List ℕ) → List ℕ
read_groups [] = []
read_groups (word ∷ words) = read_list word

abbrev pub read_row : List (List ℕ) → CofferRow
read_row words = record { path = word_at 1 words; perm = record { uid = number_at 2 words; gid = number_at 3 words; mode = read_mode (word_at 4 words) }; state = read_state (word_at 5 words) }

-- Lines.

-- a word that is a letter and a number
abbrev pub is_name : List ℕ → Bool
is_name word = ltb (byte_at 1 word) 58

abbrev pub is_kernel_word : List ℕ → Bool
is_kernel_word word = same_text word (codes "kernel")

abbrev pub read_new : List (List ℕ) → Entry
read_new words =
    cond (eqb (byte_at 0 (word_at 1 words)) 112)
    (entry.Process (read_name (word_at 1 words)) (record { uid = number_at 2 words; gid = number_at 3 words; groups = groups_of (read_groups (drop 4 words)) }))
    (entry.Thread (read_name (word_at 1 words)) (read_name (word_at 2 words)))

abbrev pub read_of_process : List (List ℕ) → Entry
read_of_process words = choose (word_at 1 words) ((codes "corrupt", entry.Corrupt (read_name (word_at 0 words))) ∷ []) (entry.Kill (read_name (word_at 0 words)))

abbrev pub read_act : List (List ℕ) → Entry
read_act words =
    entry.Act (read_name (word_at 0 words)) (number_at 1 words) (read_mark (word_at 2 words)) (read_action (before_equals (drop 3 words))) (read_answer (is_kernel_word (word_at 3 words)) (behind_equals (drop 3 words)))

abbrev pub read_of_thread : List (List ℕ) → Entry
read_of_thread words =
    choose (word_at 1 words)
    ((codes "call", entry.Call (read_name (word_at 0 words)) (read_command (drop 2 words))) ∷ (codes "reply", entry.Reply (read_name (word_at 0 words)) (read_reply (drop 2 words)))
    ∷ (codes "stray", entry.Stray (read_name (word_at 0 words)) (number_at 2 words) (number_at 3 words) (read_answer false (drop 5 words))) ∷ [])
    (entry.Wild (read_name (word_at 0 words)) (number_at 2 words) (read_action (before_equals (drop 3 words))) (read_answer (is_kernel_word (word_at 3 words)) (behind_equals (drop 3 words))))

abbrev pub read_other : List CofferRow → List (List ℕ) → Entry
read_other rows words =
    choose (word_at 0 words)
    ((codes "mkfs", entry.Mkfs (number_at 1 words)) ∷ (codes "new", read_new words) ∷ (codes "tick", entry.Tick (number_at 1 words)) ∷ (codes "crash", entry.Crash (read_pick (drop 1 words)))
    ∷ (codes "crashin", entry.CrashIn (read_name (word_at 1 words)) (number_at 2 words) (read_call (behind_pick (drop 4 words))) (number_at 3 words) (read_pick (drop 4 words)))
    ∷ (codes "r", entry.Recovery (read_action (drop 1 words))) ∷ (codes "recovered", entry.Recovered (number_at 1 words) (number_at 2 words)) ∷ (codes "lost", entry.Lost (word_at 1 words))
    ∷ (codes "skip", entry.Skip (number_at 1 words) (read_why (word_at 2 words))) ∷ (codes "quarantined", entry.Quarantine (word_at 1 words)) ∷ [])
    (entry.Coffers rows)

-- A line of a thread whose second word is a number is an action's.
abbrev pub read_named : List (List ℕ) → Entry
read_named words = cond (eqb (byte_at 0 (word_at 0 words)) 112) (read_of_process words) (cond (ltb (byte_at 0 (word_at 1 words)) 58) (read_act words) (read_of_thread words))

abbrev pub read_words : List CofferRow → List (List ℕ) → Entry
read_words rows words = cond (is_name (word_at 0 words)) (read_named words) (read_other rows words)

-- Texts. The first line of a list of coffers tells how many lines follow.

abbrev pub read_lines : List (List ℕ) → Entry
read_lines [] = entry.Mkfs 0
read_lines (line ∷ lines) = read_words (map (λ row. read_row (parts_at 32 row)) (take (number_at 1 (parts_at 32 line)) lines)) (parts_at 32 line)

abbrev pub read_text : List ℕ → Entry
read_text text = read_lines (parts_at 10 text)
