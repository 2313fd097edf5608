-- What a kernel call stores, all or nothing, and what is left by it: pages that are given come zeroed, pairs (address, word)
-- go through the journal. And when the kernel works over a memory.
use Rattle.std.specs.Prelude.{◌≡◌, ◌⊎◌, ℕ, ◌/◌, ◌<◌, ◌≤◌, List, [], ◌++◌, length, All, Contains, true, None, IsSome}
use Rattle.zo_layout.specs.Layout.{committed_word, pair_capacity, kernel_pages}
use Rattle.pm_words.specs.Word.{Word, crash_list}
use Rattle.pm_words.specs.Memory.{word_at, HasPages, store_at}
use Rattle.kern_model.specs.KernelView.{pages_of}
use Rattle.kern_model.specs.Journal.{IsHome, laid_over, kernel_word}
use Rattle.kern_model.specs.JournalLaws.{IsDurable}
use Rattle.kern_model.specs.Inner.{made_all}
use Rattle.kern_model.specs.Kernel.{read_after}
use Rattle.kern_model.specs.KernelTables.{is_id, stands_in}
use Rattle.kern_model.specs.KernelRules.{IsSoundKernel}
use Rattle.kern_model.specs.Rights.{process_of}
use Rattle.kern_model.specs.KernelCalls.{Callers, Row, cred_of, recovery_number, row_of, first_due, in_order, zero_events, stored_events, IsCall}
use Rattle.kern_model.specs.declared.limits.TheConstants.{LAST_USER}
use Rattle.tr_types.specs.declared.kernel_call.Kcall.{Kcall}
use Rattle.tr_types.specs.declared.kernel_call.Kcall.TheVariants as call
use Rattle.tr_types.specs.declared.kernel_call.Holder.{Holder}
use Rattle.tr_types.specs.declared.permission.Cred.{Cred}

-- the word that stands at an address
abbrev pub present_at : List Word → ℕ → ℕ
present_at words addr = (word_at words addr).present

-- A page that isn't the kernel's.
pub record IsOuter (words : List Word) (page : ℕ) : Type 0 where
  pub past : kernel_pages (pages_of words) ≤ page
  pub inside : page < pages_of words

-- Pages and pairs can be committed: no page is the kernel's, each pair is for a word outside the journal, the journal has room for
-- them, and nothing is committed in it.
pub record MayCommit (words : List Word) (granted : List ℕ) (pairs : List (ℕ × ℕ)) : Type 0 where
  pub size : HasPages (length words)
  pub idle : IsDurable words committed_word 0
  pub pages : All (IsOuter words) granted
  pub homes : All (λ p. IsHome (length words) p.0) pairs
  pub room : length (in_order pairs) ≤ pair_capacity (pages_of words)

-- What is left: each page is zeroed, each word has the last value that a pair gives it, these are durable, and every other word
-- outside the journal has the value that it had. Nothing is committed.
pub record IsCommitted (granted : List ℕ) (pairs : List (ℕ × ℕ)) (old new : List Word) : Type 0 where
  pub len : length new ≡ length old
  pub idle : IsDurable new committed_word 0
  pub reads : (addr : ℕ) → IsHome (length old) addr → (Contains granted (addr / 4096) → ⊥) → present_at new addr ≡ read_after pairs (present_at old) addr
  pub zeroed : (addr : ℕ) → IsHome (length old) addr → Contains granted (addr / 4096) → IsDurable new addr (laid_over pairs addr 0)
  pub durable : All (λ p. IsDurable new p.0 (laid_over pairs p.0 p.1)) pairs

abbrev pub CommitLaw : Type 0
CommitLaw =
    (words : List Word) (granted : List ℕ) (pairs : List (ℕ × ℕ)) → MayCommit words granted pairs
    → IsCommitted granted pairs words (made_all (zero_events granted ++ stored_events pairs) words)

-- The kernel works over a memory: no rule of its pages fails, nothing is committed, and each coffer that somebody holds is
-- there.
pub record IsWorking (words : List Word) (holders : List Holder) : Type 0 where
  pub size : HasPages (length words)
  pub sound : IsSoundKernel words
  pub idle : IsDurable words committed_word 0
  pub ids : All (λ h. is_id h.id ≡ true) holders
  pub held : All (λ h. stands_in (pages_of words) (kernel_word words) h.id ≡ true) holders

-- Each call but the recovery's own is a thread's, which was started in a process with credentials.

pub record IsFit (cred : Cred) : Type 0 where
  pub uid : cred.uid ≤ LAST_USER
  pub gid : cred.gid ≤ LAST_USER

abbrev pub IsCaller : Callers → ℕ → Kcall → Type 0
IsCaller callers thread (call.Recover id ready) = (thread ≡ recovery_number) ⊎ IsSome (process_of callers.threads thread)
IsCaller callers thread kcall = IsSome (process_of callers.threads thread) × IsFit (cred_of callers thread)

-- Where no refusal of its row is due, what the call commits can be committed, and the kernel works over what is left.
abbrev pub RowKeeps : List Word → Row → Type 0
RowKeeps words row =
    MayCommit words row.granted row.pairs × ((new : List Word) → IsCommitted row.granted row.pairs words new → IsWorking new row.holders)

abbrev pub RowLaw : Type 0
RowLaw =
    (callers : Callers) (words : List Word) (holders : List Holder) (thread now : ℕ) (kcall : Kcall) → IsWorking words holders → IsCaller callers thread kcall → IsCall kcall
    → first_due (row_of callers words holders thread now kcall).refusals ≡ None → RowKeeps words (row_of callers words holders thread now kcall)

-- A crash changes no word of the kernel's pages, but for the journal's.
abbrev pub HasSteadyTables : List Word → Type 0
HasSteadyTables words =
    (addr : ℕ) → IsHome (length words) addr → addr / 4096 < kernel_pages (pages_of words) → (value : ℕ) → Contains (crash_list (word_at words addr)) value → value ≡ present_at words addr

-- each word is durable
abbrev pub AreDurable : List Word → Type 0
AreDurable words = (addr : ℕ) → addr / 8 < length words → (word_at words addr).older ≡ []

-- A store to a page that isn't the kernel's leaves the kernel working, and what it reads of its own pages. Where a crash changed nothing of
-- these, it still doesn't.
pub record IsKeptBy (words : List Word) (holders : List Holder) (addr value : ℕ) : Type 0 where
  pub works : IsWorking (store_at addr value words) holders
  pub same : (other : ℕ) → other / 4096 < kernel_pages (pages_of words) → present_at (store_at addr value words) other ≡ present_at words other
  pub steady : HasSteadyTables words → HasSteadyTables (store_at addr value words)

abbrev pub StoreLaw : Type 0
StoreLaw =
    (words : List Word) (holders : List Holder) (addr value : ℕ) → IsWorking words holders → IsOuter words (addr / 4096) → IsKeptBy words holders addr value
