-- The rules of the kernel's pages: the superblock, the journal, the tables. They are tried in three stages, and what counts
-- is the least place of the first stage in which one fails.
use Rattle.std.specs.Prelude.{◌≡◌, ◌≢◌, ◌⊎◌, ℕ, ◌<◌, ◌≤◌, List, true, false, All}
use Rattle.zo_layout.specs.Layout.{signature_word, version_word, count_word, committed_word, owner_word, coffer_entry, path_bucket}
use Rattle.pm_words.specs.Word.{Word}
use Rattle.pm_words.specs.Memory.{word_at}
use Rattle.kern_model.specs.KernelView.{pages_of}
use Rattle.kern_model.specs.Journal.{IsReadable, committed, kernel_word}
use Rattle.kern_model.specs.KernelTables.{owner_fails, entry_fails, bucket_fails}
use Rattle.kern_model.specs.declared.limits.TheConstants.{TREASURY, VERSION, LAST_COFFER}
use Rattle.tr_types.specs.declared.rule.Rule.{Rule}
use Rattle.tr_types.specs.declared.rule.Rule.TheVariants as rule

-- no pair is for what the superblock says: its words 0 to 2
abbrev pub SparesSuperblock : List Word → Type 0
SparesSuperblock words = All (λ p. (p.0 ≢ signature_word) × (p.0 ≢ version_word) × (p.0 ≢ count_word)) (committed words)

-- the committed pairs can be finished: they are readable, and none is for what the superblock says
pub record IsFinishable (words : List Word) : Type 0 where
  pub readable : IsReadable words
  pub spares : SparesSuperblock words

-- A rule fails at a place, which is an address. The tables are read with the committed pairs laid over the words. Other
-- rules aren't about the kernel's pages.
abbrev pub Fails : List Word → Rule → ℕ → Type 0
Fails words rule.Magic place = (place ≡ signature_word) × ((word_at words place).present ≢ TREASURY)
Fails words rule.Version place = (place ≡ version_word) × ((word_at words place).present ≢ VERSION)
Fails words rule.Count place = (place ≡ count_word) × ((word_at words place).present ≢ pages_of words)
Fails words rule.Journal place = (place ≡ committed_word) × (IsFinishable words → ⊥)
Fails words rule.Owner place =
    (page : ℕ) × (page < pages_of words) × (place ≡ owner_word (pages_of words) page) × (owner_fails (pages_of words) (kernel_word words) page ≡ true)
Fails words rule.Coffer place =
    (id : ℕ) × (1 ≤ id) × (id ≤ LAST_COFFER) × (place ≡ coffer_entry (pages_of words) id) × (entry_fails (pages_of words) (kernel_word words) id ≡ true)
Fails words rule.Bucket place =
    (bucket : ℕ) × (bucket < 256) × (place ≡ path_bucket (pages_of words) bucket) × (bucket_fails (pages_of words) (kernel_word words) bucket ≡ true)
Fails words other place = ⊥

-- the stages: the superblock, the journal, the tables
pub data Stage : Type 0 where
  Superblock : Stage
  Pairs : Stage
  Tables : Stage

-- a rule of the stage fails at the place
abbrev pub FailsIn : List Word → Stage → ℕ → Type 0
FailsIn words Superblock place = Fails words rule.Magic place ⊎ (Fails words rule.Version place ⊎ Fails words rule.Count place)
FailsIn words Pairs place = Fails words rule.Journal place
FailsIn words Tables place = Fails words rule.Owner place ⊎ (Fails words rule.Coffer place ⊎ Fails words rule.Bucket place)

-- no rule of the stage fails
abbrev pub PassesStage : List Word → Stage → Type 0
PassesStage words stage = (place : ℕ) → FailsIn words stage place → ⊥

-- a rule of the stage fails at the place, and at no lesser one
pub record FailsFirst (words : List Word) (stage : Stage) (place : ℕ) : Type 0 where
  pub fails : FailsIn words stage place
  pub least : (other : ℕ) → FailsIn words stage other → place ≤ other

-- the place of the first failing rule: the least of the first stage in which one fails
abbrev pub IsFirstFault : List Word → ℕ → Type 0
IsFirstFault words place =
    FailsFirst words Superblock place
    ⊎ ((PassesStage words Superblock × FailsFirst words Pairs place)
    ⊎ (PassesStage words Superblock × PassesStage words Pairs × FailsFirst words Tables place))

-- No rule of the kernel's pages fails: each holds at each of its places.
pub record IsSoundKernel (words : List Word) : Type 0 where
  pub signature : (word_at words signature_word).present ≡ TREASURY
  pub version : (word_at words version_word).present ≡ VERSION
  pub count : (word_at words count_word).present ≡ pages_of words
  pub pairs : IsFinishable words
  pub owners : (page : ℕ) → page < pages_of words → owner_fails (pages_of words) (kernel_word words) page ≡ false
  pub entries : (id : ℕ) → 1 ≤ id → id ≤ LAST_COFFER → entry_fails (pages_of words) (kernel_word words) id ≡ false
  pub buckets : (bucket : ℕ) → bucket < 256 → bucket_fails (pages_of words) (kernel_word words) bucket ≡ false
