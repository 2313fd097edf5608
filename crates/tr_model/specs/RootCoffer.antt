-- How the kernel's calls are answered where the root coffer, whose number is 1, is the only one: what the rows say of it.
-- These words follow from the rows, and nothing else is defined by them.
use Rattle.std.specs.Prelude.{◌≡◌, ◌≢◌, ◌⊎◌, ℕ, ◌/◌, ◌<◌, ◌≤◌, List, [], ◌∷◌, length, take, filter, Bool, true, false, Some, None, All, ◌==◌, ◌&&◌, ◌||◌, codes}
use Rattle.std.specs.List.{range_with_len}
use Rattle.pm_words.specs.Word.{Word}
use Rattle.pm_words.specs.Memory.{word_at}
use Rattle.zo_layout.specs.Layout.{page_at, word_of, committed_word, owner_word, coffer_table, root_control, root_page}
use Rattle.zo_model.specs.Alone.{root_perm}
use Rattle.zo_model.specs.Commands.{IsPath}
use Rattle.kern_model.specs.Given.{pages_held}
use Rattle.kern_model.specs.KernelView.{pages_of, owner_of, free_pages}
use Rattle.kern_model.specs.Rights.{key_for, those_against, holds_itself, allows_writing, is_row_of, with_row, without_row, IsLeastOf}
use Rattle.kern_model.specs.Journal.{IsHome}
use Rattle.kern_model.specs.JournalLaws.{IsDurable}
use Rattle.kern_model.specs.NewImage.{coffer_word}
use Rattle.kern_model.specs.KernelTables.{Coffer}
use Rattle.bus_model.specs.Machine.{Bus}
use Rattle.tr_types.specs.declared.kernel_call.Kcall.{Kcall}
use Rattle.tr_types.specs.declared.kernel_call.Kcall.TheVariants.{Find, Map, Unmap, Enlarge}
use Rattle.tr_types.specs.declared.kernel_call.KernAnswer.{KernAnswer}
use Rattle.tr_types.specs.declared.kernel_call.KernAnswer.TheVariants.{Done as IsDone, Found, Mapped as IsMapped, Pages, NotHeld, InUse, NoKey, NoPages, BadCount}
use Rattle.tr_types.specs.declared.kernel_call.FoundAt.{FoundAt}
use Rattle.tr_types.specs.declared.kernel_call.Holder.{Holder}
use Rattle.tr_types.specs.declared.kernel_call.Mapped.{Mapped}
use Rattle.tr_types.specs.declared.permission.Right.{Right}

abbrev pub found_at : List ℕ → FoundAt
found_at path = record { id = 1; exact = (length path == 1); path_len = 1; perm = root_perm }

-- the root coffer as a thread has it mapped under a key
abbrev pub root_mapped : List Word → ℕ → Mapped
root_mapped words key = record {
  id = 1;
  key = key;
  control = root_control (pages_of words);
  root = root_page (pages_of words);
  pages = pages_held words 1;
  path_len = 1;
  perm = root_perm;
}

-- A map is refused where others stand against it, then where the process has no key left. (The root coffer's
-- permission gives everyone the rights to read and to write; a map for the owner's rights isn't built.)
abbrev pub MapAnswers : Bus → ℕ → Bool → KernAnswer → Type 0
MapAnswers bus thread exclusive (IsMapped m) =
    (those_against thread 1 exclusive bus.holders ≡ []) × (key_for bus.threads bus.holders thread 1 ≡ Some m.key) × (m ≡ root_mapped bus.words m.key)
MapAnswers bus thread exclusive (InUse other id path_len) = IsLeastOf (those_against thread 1 exclusive bus.holders) other × (id ≡ 1) × (path_len ≡ 1)
MapAnswers bus thread exclusive (NoKey id path_len) =
    (those_against thread 1 exclusive bus.holders ≡ []) × (key_for bus.threads bus.holders thread 1 ≡ None) × (id ≡ 1) × (path_len ≡ 1)
MapAnswers bus thread exclusive answer = ⊥

abbrev pub UnmapAnswers : Bus → ℕ → ℕ → KernAnswer → Type 0
UnmapAnswers bus thread id IsDone = holds_itself thread id bus.holders ≡ true
UnmapAnswers bus thread id NotHeld = holds_itself thread id bus.holders ≡ false
UnmapAnswers bus thread id answer = ⊥

-- the thread itself holds the coffer for writing
abbrev pub holds_to_write : ℕ → ℕ → List Holder → Bool
holds_to_write thread coffer [] = false
holds_to_write thread coffer (h ∷ holders) = (is_row_of thread coffer h && allows_writing h.right) || holds_to_write thread coffer holders

-- a coffer is enlarged by the least free pages, and is refused exactly where fewer are free than are asked for
abbrev pub IsEnlarged : List Word → ℕ → KernAnswer → Type 0
IsEnlarged words count (Pages pages) = (count ≤ length (free_pages words)) × (pages ≡ take count (free_pages words))
IsEnlarged words count (NoPages asked free) = (free < count) × (asked ≡ count) × (free ≡ length (free_pages words))
IsEnlarged words count answer = ⊥

-- the count of pages must be one of 1 to 1,024
abbrev pub EnlargeAnswers : Bus → ℕ → ℕ → ℕ → KernAnswer → Type 0
EnlargeAnswers bus thread id count NotHeld = holds_to_write thread id bus.holders ≡ false
EnlargeAnswers bus thread id count BadCount = (holds_to_write thread id bus.holders ≡ true) × ((count ≡ 0) ⊎ (1024 < count))
EnlargeAnswers bus thread id count answer = (holds_to_write thread id bus.holders ≡ true) × (1 ≤ count) × (count ≤ 1024) × IsEnlarged bus.words count answer

-- a right that the root coffer gives to everyone
abbrev pub IsGiven : Right → Type 0
IsGiven right = (right.0 ≡ 1) ⊎ (right.0 ≡ 2)

-- the kernel answers a call so
abbrev pub RootAnswers : Bus → ℕ → Kcall → KernAnswer → Type 0
RootAnswers bus thread (Find path None) answer = IsPath path × (answer ≡ Found (found_at path) None)
RootAnswers bus thread (Map path right exclusive) answer = IsPath path × IsGiven right × MapAnswers bus thread exclusive answer
RootAnswers bus thread (Unmap id) answer = UnmapAnswers bus thread id answer
RootAnswers bus thread (Enlarge id count) answer = EnlargeAnswers bus thread id count answer
RootAnswers bus thread call answer = ⊥

-- who holds which coffer after a call that was answered so
abbrev pub root_held : ℕ → Kcall → KernAnswer → List Holder → List Holder
root_held thread (Map path right exclusive) (IsMapped m) holders = with_row (record { thread = thread; id = m.id; key = m.key; right = right; exclusive = exclusive }) holders
root_held thread (Unmap id) IsDone holders = without_row thread id holders
root_held thread kcall answer holders = holders

-- The coffer table is that of a new image, so that the root coffer is there and no other; nothing is committed.

abbrev pub root_coffer : ℕ → Coffer
root_coffer pages = record { id = 1; path = codes "/"; perm = root_perm; state = 1; kind = 0; control = root_control pages; root = root_page pages }

pub record IsRootAlone (words : List Word) : Type 0 where
  pub idle : IsDurable words committed_word 0
  pub entries : (i : ℕ) → i < 16384 → (word_at words (word_of (page_at (coffer_table (pages_of words))) i)).present ≡ coffer_word (pages_of words) i
