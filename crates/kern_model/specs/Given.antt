-- What is left of the memory where pages are given to a coffer.
use Rattle.std.specs.Prelude.{◌≡◌, ◌≢◌, ℕ, ◌/◌, ◌<◌, List, length, filter, All, ◌==◌}
use Rattle.std.specs.List.{range_with_len}
use Rattle.pm_words.specs.Word.{Word}
use Rattle.pm_words.specs.Memory.{word_at}
use Rattle.zo_layout.specs.Layout.{page_at, word_of, committed_word, owner_word}
use Rattle.kern_model.specs.Journal.{IsHome}
use Rattle.kern_model.specs.JournalLaws.{IsDurable}
use Rattle.kern_model.specs.KernelView.{pages_of, owner_of}
use Rattle.tr_types.specs.declared.kernel_call.KernAnswer.{KernAnswer}
use Rattle.tr_types.specs.declared.kernel_call.KernAnswer.TheVariants.{Pages}

-- how many pages a coffer has
abbrev pub pages_held : List Word → ℕ → ℕ
pages_held words coffer = length (filter (λ page. owner_of words page == coffer) (range_with_len 0 (pages_of words)))

-- Pages have come to a coffer: their owner's words say so, all their words are 0, and no other word outside the journal has another
-- value. Nothing is committed, and durably so.
pub record IsGivenTo (id : ℕ) (pages : List ℕ) (old new : List Word) : Type 0 where
  pub len : length new ≡ length old
  pub idle : IsDurable new committed_word 0
  pub owned : All (λ page. (word_at new (owner_word (pages_of old) page)).present ≡ id) pages
  pub zeroed : All (λ page. (i : ℕ) → i < 512 → (word_at new (word_of (page_at page) i)).present ≡ 0) pages
  pub others : (addr : ℕ) → IsHome (length old) addr → All (λ page. owner_word (pages_of old) page ≢ addr) pages → All (λ page. addr / 4096 ≢ page) pages
      → (word_at new addr).present ≡ (word_at old addr).present

-- what an Enlarge of a coffer that was answered so leaves of the memory
abbrev pub EnlargeLeaves : ℕ → List Word → KernAnswer → List Word → Type 0
EnlargeLeaves id old (Pages pages) new = IsGivenTo id pages old new
EnlargeLeaves id old answer new = new ≡ old
