-- The parts in which the rules of the kernel's pages are tried.
use Rattle.std.specs.Prelude.{◌≡◌, ◌≢◌, ℕ, ◌<◌, ◌≤◌, List, length, Bool, true, false, not, ◌&&◌, ◌||◌, ◌==◌, nat_le, Option, Some, None, codes}
use Rattle.zo_layout.specs.Layout.{signature_word, version_word, count_word, bucket_of}
use Rattle.pm_words.specs.Word.{Word}
use Rattle.pm_words.specs.Memory.{word_at}
use Rattle.kern_model.specs.KernelView.{pages_of}
use Rattle.kern_model.specs.Journal.{IsHome, kernel_word}
use Rattle.tr_types.specs.Paths.{same_text}
use Rattle.kern_model.specs.KernelTables.{Coffer, bucket_fails, entry_fails, is_mode, owner_fails, pages_fail, path_fails, path_in, path_stands_twice, stands_in}
use Rattle.kern_model.specs.declared.limits.TheConstants.{TREASURY, VERSION, LAST_USER, ROOT_COFFER}
use Rattle.tr_types.specs.declared.permission.Perm.{Perm}

-- the least number from one up to below another at which a test holds, or none
abbrev pub IsLeast : (ℕ → Bool) → ℕ → ℕ → Option ℕ → Type 0
IsLeast test low high None = (k : ℕ) → low ≤ k → k < high → test k ≡ false
IsLeast test low high (Some n) = (low ≤ n) × (n < high) × (test n ≡ true) × ((k : ℕ) → low ≤ k → k < n → test k ≡ false)

-- the superblock is that of an image of this size
pub record HasSuperblock (words : List Word) : Type 0 where
  pub signature : (word_at words signature_word).present ≡ TREASURY
  pub version : (word_at words version_word).present ≡ VERSION
  pub count : (word_at words count_word).present ≡ pages_of words

-- a pair may be for this address: one of a word of the image, but no word of the journal and none that the superblock has
pub record IsTarget (words : List Word) (addr : ℕ) : Type 0 where
  pub home : IsHome (length words) addr
  pub spared : (addr ≢ signature_word) × (addr ≢ version_word) × (addr ≢ count_word)

-- a permission has a uid, a gid or a mode that is none
abbrev pub perm_fails : Perm → Bool
perm_fails perm = not (nat_le perm.uid LAST_USER) || not (nat_le perm.gid LAST_USER) || not (is_mode perm.mode)

-- what a coffer's own words say
abbrev pub fields_fail : ℕ → (ℕ → ℕ) → Coffer → Bool
fields_fail pages at c = perm_fails c.perm || path_fails pages at c.id || not (c.kind == 0)

-- what is to be its own: its two pages, and its path
abbrev pub claims_fail : ℕ → (ℕ → ℕ) → Coffer → Bool
claims_fail pages at c = pages_fail pages at c || path_stands_twice pages at c.id || ((c.id == ROOT_COFFER) && not (same_text c.path (codes "/")))

-- a coffer is there and has this path
abbrev pub has_path : ℕ → (ℕ → ℕ) → List ℕ → ℕ → Bool
has_path pages at path id = stands_in pages at id && same_text (path_in pages at id) path

-- a coffer is there, and its path belongs to the bucket
abbrev pub is_in_bucket : ℕ → (ℕ → ℕ) → ℕ → ℕ → Bool
is_in_bucket pages at bucket id = stands_in pages at id && (bucket_of (path_in pages at id) == bucket)

-- no rule of the tables fails
pub record AreGoodTables (words : List Word) : Type 0 where
  pub owners : (page : ℕ) → page < pages_of words → owner_fails (pages_of words) (kernel_word words) page ≡ false
  pub entries : (id : ℕ) → 1 ≤ id → id ≤ 256 → entry_fails (pages_of words) (kernel_word words) id ≡ false
  pub buckets : (bucket : ℕ) → bucket < 256 → bucket_fails (pages_of words) (kernel_word words) bucket ≡ false
