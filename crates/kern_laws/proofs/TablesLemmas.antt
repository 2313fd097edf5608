-- What stays of the kernel's tables where their words read the same.
use Rattle.std.proofs.Common.{◌≡◌, ℕ, ◌≤◌, true, List, get_or, refl, ap, ◌∙◌, arith}
use Rattle.std.specs.Prelude.{All, nat_le}
use Rattle.std.proofs.lemmas.Bool.{and_parts, leb-true}
use Rattle.zo_layout.specs.Layout.{coffer_entry, coffer_state}
use Rattle.pm_words.specs.Word.{Word}
use Rattle.kern_model.specs.KernelView.{pages_of}
use Rattle.kern_model.specs.Journal.{kernel_word}
use Rattle.kern_model.specs.KernelTables.{is_id, is_there, stands_in}
use Rattle.kern_model.specs.KernelRules.{IsSoundKernel}
use Rattle.tr_types.specs.declared.kernel_call.Holder.{Holder}
use Rattle.kern_owner.specs.Laws.{SameTables, SameCoffers, TablesPass}
use Rattle.kern_owner.proofs.LawLemmas.{grant_keeps}
use Rattle.kern_roots.proofs.ReadingSound.{root_is_there}

pub id_bounds : (id : ℕ) → is_id id ≡ true → (1 ≤ id) × (id ≤ 256)
id_bounds id is =
    let parts = and_parts (nat_le 1 id) (nat_le id 256) is in
    (leb-true 1 id parts.0, leb-true id 256 parts.1)

pub same_coffers : (pages : ℕ) (at after : ℕ → ℕ) → SameTables pages at after → SameCoffers pages at after
same_coffers pages at after same addr whole low high = same addr whole (omega arith) high

-- the coffers that are there stay there
pub stands_still : (pages : ℕ) (at after : ℕ → ℕ) → SameCoffers pages at after → (id : ℕ) → is_id id ≡ true → stands_in pages after id ≡ stands_in pages at id
stands_still pages at after same id is =
    let bounds = id_bounds id is in
    let low = bounds.0 in
    let high = bounds.1 in
    ap is_there (same (coffer_state (coffer_entry pages id)) (omega arith) (omega arith) (omega arith))

-- so do those that somebody holds
pub held_still : (pages : ℕ) (at after : ℕ → ℕ) (holders : List Holder) → SameCoffers pages at after → All (λ h. is_id h.id ≡ true) holders
    → All (λ h. stands_in pages at h.id ≡ true) holders → All (λ h. stands_in pages after h.id ≡ true) holders
held_still pages at after holders same ids held k d lt = stands_still pages at after same (get_or holders k d).id (ids k d lt) ∙ held k d lt

pub root_stands : (pages : ℕ) (at : ℕ → ℕ) → TablesPass pages at → stands_in pages at 1 ≡ true
root_stands pages at passes = (and_parts (is_id 1) (stands_in pages at 1) (root_is_there pages at (passes.entries 1 (omega arith) (omega arith)))).1

-- no rule fails, as where no page is granted
pub tables_same : (pages : ℕ) (at after : ℕ → ℕ) → SameTables pages at after → TablesPass pages at → TablesPass pages after
tables_same pages at after same passes = grant_keeps pages 1 0 at after same refl (root_stands pages at passes) passes

pub tables_of : (words : List Word) → IsSoundKernel words → TablesPass (pages_of words) (kernel_word words)
tables_of words sound = record { owners = sound.owners; entries = sound.entries; buckets = sound.buckets }
