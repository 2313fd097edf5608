-- The parts of a kernel call: what is planned, what the kernel follows, and what a call that changes no word leaves.
use Rattle.std.specs.Prelude.{◌≡◌, ◌⊎◌, ℕ, ◌<◌, ◌≤◌, List, [], ◌∷◌, length, slice_index, Bool, true, not, is_some, ◌==◌, ⊤}
use Rattle.std.specs.List.{list_any}
use Rattle.zo_layout.specs.Layout.{kernel_pages, owner_word}
use Rattle.pm_words.specs.Word.{Word}
use Rattle.kern_model.specs.KernelView.{pages_of}
use Rattle.kern_model.specs.Kernel.{kernel_owner}
use Rattle.kern_model.specs.Commits.{IsOuter}
use Rattle.kern_model.specs.Rights.{key_for, those_against, with_row}
use Rattle.kern_model.specs.KernelCalls.{Callers, Row, row_of_maps, row_answer, unless_refused, refused_where, least_of, key_or_none, without_coffer}
use Rattle.kern_model.specs.declared.limits.TheConstants.{LAST_COFFER}
use Rattle.tr_types.specs.declared.kernel_call.Kcall.{Kcall}
use Rattle.tr_types.specs.declared.kernel_call.Kcall.TheVariants as call
use Rattle.tr_types.specs.declared.kernel_call.KernAnswer.{KernAnswer}
use Rattle.tr_types.specs.declared.kernel_call.KernAnswer.TheVariants as answer
use Rattle.tr_types.specs.declared.kernel_call.Holder.{Holder}
use Rattle.tr_types.specs.declared.kernel_call.Mapped.{Mapped}
use Rattle.tr_types.specs.declared.permission.Right.{Right}
use Rattle.kern_calls.specs.declared.maps.Target.{Target}
use Rattle.kern_calls.specs.Calls.{KernelView}

-- What a call does.

-- it stores words where it isn't refused
abbrev pub IsChange : Kcall → Type 0
IsChange (call.Find path also) = ⊥
IsChange (call.Map path right exclusive) = ⊥
IsChange (call.Unmap id) = ⊥
IsChange kcall = ⊤

-- a coffer comes by it
abbrev pub IsComing : Kcall → Type 0
IsComing (call.New parent path kind mode link guard) = ⊤
IsComing (call.Split id path pages mode link guard) = ⊤
IsComing kcall = ⊥

-- a coffer goes by it
abbrev pub IsGoing : Kcall → Type 0
IsGoing (call.Delete id parent link guard) = ⊤
IsGoing (call.Merge child parent pages link guard) = ⊤
IsGoing kcall = ⊥

-- whose maps are left once it is done
abbrev pub holders_left : Kcall → List Holder → List Holder
holders_left (call.Delete id parent link guard) holders = without_coffer id holders
holders_left (call.Merge child parent pages link guard) holders = without_coffer child holders
holders_left kcall holders = holders

-- Calls that change no word.

abbrev pub with_holders : List Holder → KernelView → KernelView
with_holders holders kernel = record kernel { holders = holders }

-- the answer and the holders are as the row says; where memory runs out, nothing is said
abbrev pub FollowsRow : Row → KernelView → KernAnswer → KernelView → Type 0
FollowsRow row old answer.NoMemory new = ⊤
FollowsRow row old result new = (result ≡ row_answer row) × (new ≡ with_holders (unless_refused row old.holders row.holders) old)

-- a coffer as it is answered, under a key
abbrev pub with_key : ℕ → Mapped → Mapped
with_key key m = record { id = m.id; key = key; control = m.control; root = m.root; pages = m.pages; path_len = m.path_len; perm = m.perm }

-- a coffer as it is answered, once it is mapped under a key
abbrev pub mapped_under : ℕ → Target → Mapped
mapped_under key t = record { id = t.id; key = key; control = t.root.control; root = t.root.root; pages = t.pages; path_len = t.path_len; perm = t.root.perm }

-- the last part of a map's row: nobody stands against it, and a key is free; the key that `m` has counts for nothing
abbrev pub hold_row : Callers → List Holder → ℕ → Right → Bool → Mapped → Row
hold_row callers holders thread right exclusive m =
    row_of_maps
    (refused_where (not (length (those_against thread m.id exclusive holders) == 0)) (answer.InUse (least_of (those_against thread m.id exclusive holders)) m.id m.path_len)
    ∷ refused_where (not (is_some (key_for callers.threads holders thread m.id))) (answer.NoKey m.id m.path_len)
    ∷ [])
    (answer.Mapped (with_key (key_or_none (key_for callers.threads holders thread m.id)) m))
    (with_row (record { thread = thread; id = m.id; key = key_or_none (key_for callers.threads holders thread m.id); right = right; exclusive = exclusive }) holders)

-- Whose each page is, once words were stored.

abbrev pub with_owners : List ℕ → KernelView → KernelView
with_owners owners kernel = record kernel { owners = owners }

-- a pair is for the owner word of a page that isn't the kernel's
pub record IsNamed (words : List Word) (pairs : List (ℕ × ℕ)) (page : ℕ) : Type 0 where
  pub outer : kernel_pages (pages_of words) ≤ page
  pub named : list_any (λ p. p.0 == owner_word (pages_of words) page) pairs ≡ true

-- The kernel knows whose each page is, but for those that pairs name.
pub record KnowsUpTo (words : List Word) (pairs : List (ℕ × ℕ)) (owners : List ℕ) : Type 0 where
  pub count : length owners ≡ pages_of words
  pub told : (page : ℕ) → page < pages_of words → (slice_index owners page ≡ kernel_owner words page) ⊎ IsNamed words pairs page
  pub outer : (page : ℕ) → IsOuter words page → slice_index owners page ≤ LAST_COFFER

-- The word at an address says whose a page is that isn't the kernel's.
pub record IsPageAt (pages addr page : ℕ) : Type 0 where
  pub past : kernel_pages pages ≤ page
  pub inside : page < pages
  pub word : owner_word pages page ≡ addr

-- The kernel has followed what stands at one address.
pub record FollowsWord (words : List Word) (addr : ℕ) (old new : KernelView) : Type 0 where
  pub callers : new.callers ≡ old.callers
  pub holders : new.holders ≡ old.holders
  pub count : length new.owners ≡ length old.owners
  pub there : (page : ℕ) → IsPageAt (pages_of words) addr page → slice_index new.owners page ≡ kernel_owner words page
  pub others : (page : ℕ) → (slice_index new.owners page ≡ slice_index old.owners page) ⊎ (IsOuter words page × (slice_index new.owners page ≡ kernel_owner words page))
