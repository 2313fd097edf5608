-- A new image of 64 pages in which the bucket of `/` is empty, with a committed pair that puts the root coffer there: the
-- kernel reads what it reads in the new image.
use Rattle.std.proofs.Common.{◌≡◌, ◌≢◌, false, ◌⊎◌, inl, inr, ℕ, ◌%◌, ◌<◌, ◌≤◌, List, [], ◌∷◌, length, map, refl, sym, ap, subst, ◌∙◌, arith}
use Rattle.std.specs.Prelude.{All}
use Rattle.std.specs.List.{range_with_len}
use Rattle.std.proofs.lemmas.Bool.{cases_eq}
use Rattle.std.proofs.lemmas.List.Elements.{All-nil, All-cons}
use Rattle.pm_words.specs.Word.{Word}
use Rattle.pm_words.specs.Memory.{word_at, store_at, all_durable}
use Rattle.pm_words.proofs.WordLemmas.{length_store_at, word_at_stored, word_at_other}
use Rattle.zo_layout.specs.Layout.{signature_word, version_word, count_word, owner_word, word_of, page_at, coffer_table, path_bucket, pair_capacity}
use Rattle.kern_model.specs.NewImage.{new_image}
use Rattle.kern_model.specs.KernelView.{pages_of}
use Rattle.kern_model.specs.Journal.{IsHome, committed, committed_count, pair_at, laid_over, kernel_word}
use Rattle.kern_model.specs.KernelTables.{owner_fails, entry_fails, bucket_fails}
use Rattle.kern_model.specs.KernelRules.{IsSoundKernel}
use Rattle.kern_model.proofs.FreePages.{pages_are, size_opened}
use Rattle.kern_model.proofs.NewKernel.{IsNewTables, new_is_sound, new_committed, new_tables, new_owners, new_entries, new_buckets}
use Rattle.kern_roots.proofs.ChangingReads.{laid_past, laid_one}

abbrev fresh : List Word
fresh = all_durable (new_image 64)

-- the bucket of `/` becomes empty, and then come the pair's address, its word, and the number of pairs
abbrev pub pending : List Word → List Word
pending words = store_at 4096 1 (store_at 4168 1 (store_at 4160 153584 (store_at 153584 0 words)))

size : length fresh ≡ 32768
size = (size_opened 64 (omega arith) (omega arith)).whole

same_size : length (pending fresh) ≡ 32768
same_size =
    length_store_at 4096 1 (store_at 4168 1 (store_at 4160 153584 (store_at 153584 0 fresh)))
    ∙ length_store_at 4168 1 (store_at 4160 153584 (store_at 153584 0 fresh))
    ∙ length_store_at 4160 153584 (store_at 153584 0 fresh)
    ∙ length_store_at 153584 0 fresh
    ∙ size

-- the other words are as they were
kept : (addr : ℕ) → addr % 8 ≡ 0 → addr ≢ 4096 → addr ≢ 4168 → addr ≢ 4160 → addr ≢ 153584 → word_at (pending fresh) addr ≡ word_at fresh addr
kept addr whole a b c d =
    word_at_other 4096 addr 1 (store_at 4168 1 (store_at 4160 153584 (store_at 153584 0 fresh))) refl whole a
    ∙ word_at_other 4168 addr 1 (store_at 4160 153584 (store_at 153584 0 fresh)) refl whole b
    ∙ word_at_other 4160 addr 153584 (store_at 153584 0 fresh) refl whole c
    ∙ word_at_other 153584 addr 0 fresh refl whole d

count : committed_count (pending fresh) ≡ 1
count =
    ap (λ (w : Word). w.present) (word_at_stored 4096 1 (store_at 4168 1 (store_at 4160 153584 (store_at 153584 0 fresh))) (record { aligned = refl; inside = long }))
  where
    long : 512 < length (store_at 4168 1 (store_at 4160 153584 (store_at 153584 0 fresh)))
    long =
        let a = length_store_at 4168 1 (store_at 4160 153584 (store_at 153584 0 fresh)) in
        let b = length_store_at 4160 153584 (store_at 153584 0 fresh) in
        let c = length_store_at 153584 0 fresh in
        let d = size in
        omega arith

pair : pair_at (pending fresh) 0 ≡ (153584, 1)
pair = λ i. (address i, word i)
  where
    address : (word_at (pending fresh) 4160).present ≡ 153584
    address =
        let b = length_store_at 153584 0 fresh in
        let d = size in
        let long : 520 < length (store_at 153584 0 fresh) = omega arith in
        ap (λ (w : Word). w.present)
        (word_at_other 4096 4160 1 (store_at 4168 1 (store_at 4160 153584 (store_at 153584 0 fresh))) refl refl (λ e. omega arith)
        ∙ word_at_other 4168 4160 1 (store_at 4160 153584 (store_at 153584 0 fresh)) refl refl (λ e. omega arith)
        ∙ word_at_stored 4160 153584 (store_at 153584 0 fresh) (record { aligned = refl; inside = long }))

    word : (word_at (pending fresh) 4168).present ≡ 1
    word =
        let a = length_store_at 4160 153584 (store_at 153584 0 fresh) in
        let b = length_store_at 153584 0 fresh in
        let d = size in
        let long : 521 < length (store_at 4160 153584 (store_at 153584 0 fresh)) = omega arith in
        ap (λ (w : Word). w.present)
        (word_at_other 4096 4168 1 (store_at 4168 1 (store_at 4160 153584 (store_at 153584 0 fresh))) refl refl (λ e. omega arith)
        ∙ word_at_stored 4168 1 (store_at 4160 153584 (store_at 153584 0 fresh)) (record { aligned = refl; inside = long }))

pairs : committed (pending fresh) ≡ (153584, 1) ∷ []
pairs =
    ap (λ (n : ℕ). map (pair_at (pending fresh)) (range_with_len 0 n)) count
    ∙ ap (λ (p : ℕ × ℕ). p ∷ []) pair

tables : IsNewTables 64 (kernel_word fresh)
tables = new_tables 64 (omega arith) (omega arith)

-- what the kernel reads behind the journal
reads : (addr : ℕ) → addr % 8 ≡ 0 → 8192 ≤ addr → kernel_word (pending fresh) addr ≡ kernel_word fresh addr
reads addr whole behind =
    ap (λ (ps : List (ℕ × ℕ)). laid_over ps addr (word_at (pending fresh) addr).present) pairs ∙ by (cases_eq addr 153584)
  where
    none : kernel_word fresh addr ≡ (word_at fresh addr).present
    none =
        ap (λ (n : ℕ). laid_over (map (pair_at fresh) (range_with_len 0 n)) addr (word_at fresh addr).present) (new_committed 64 (omega arith) (omega arith))

    by : (addr ≡ 153584) ⊎ (addr ≡ 153584 → ⊥) → laid_over ((153584, 1) ∷ []) addr (word_at (pending fresh) addr).present ≡ kernel_word fresh addr
    by (inl e) =
        laid_one 153584 1 addr (word_at (pending fresh) addr).present (sym e)
        ∙ sym (ap (kernel_word fresh) e ∙ tables.buckets 254 (omega arith))
    by (inr ne) =
        laid_past 153584 1 [] addr (word_at (pending fresh) addr).present (λ e. ne (sym e))
        ∙ ap (λ (w : Word). w.present) (kept addr whole (λ e. omega arith) (λ e. omega arith) (λ e. omega arith) ne)
        ∙ sym none

same_tables : IsNewTables 64 (kernel_word (pending fresh))
same_tables = record {
  owners = λ page lt. reads (owner_word 64 page) (omega arith) (omega arith) ∙ tables.owners page lt;
  entries = λ i lt. reads (word_of (page_at (coffer_table 64)) i) (omega arith) (omega arith) ∙ tables.entries i lt;
  buckets = λ bucket lt. reads (path_bucket 64 bucket) (omega arith) (omega arith) ∙ tables.buckets bucket lt;
}

pub pending_is_sound : IsSoundKernel (pending fresh)
pending_is_sound = record {
  signature = present signature_word refl (omega arith) ∙ sound.signature;
  version = present version_word refl (omega arith) ∙ sound.version;
  count = present count_word refl (omega arith) ∙ sound.count ∙ pages ∙ sym pages_now;
  pairs = record {
    readable = record {
      room = subst (λ (n : ℕ). n ≤ pair_capacity (pages_of (pending fresh))) (sym count) (let p = pages_now in omega arith);
      homes = subst (λ (ps : List (ℕ × ℕ)). All (λ p. IsHome (length (pending fresh)) p.0) ps) (sym pairs)
          (All-cons (λ (p : ℕ × ℕ). IsHome (length (pending fresh)) p.0) (153584, 1) [] home (All-nil (λ (p : ℕ × ℕ). IsHome (length (pending fresh)) p.0)));
    };
    spares = subst (λ (ps : List (ℕ × ℕ)). All (λ p. (p.0 ≢ signature_word) × (p.0 ≢ version_word) × (p.0 ≢ count_word)) ps) (sym pairs)
        (All-cons (λ (p : ℕ × ℕ). (p.0 ≢ signature_word) × (p.0 ≢ version_word) × (p.0 ≢ count_word)) (153584, 1) []
        ((λ e. omega arith), (λ e. omega arith), (λ e. omega arith)) (All-nil (λ (p : ℕ × ℕ). (p.0 ≢ signature_word) × (p.0 ≢ version_word) × (p.0 ≢ count_word))));
  };
  owners = subst (λ (n : ℕ). (page : ℕ) → page < n → owner_fails n (kernel_word (pending fresh)) page ≡ false) (sym pages_now) (new_owners 64 (kernel_word (pending fresh)) same_tables);
  entries = subst (λ (n : ℕ). (id : ℕ) → 1 ≤ id → id ≤ 256 → entry_fails n (kernel_word (pending fresh)) id ≡ false) (sym pages_now) (new_entries 64 (kernel_word (pending fresh)) (omega arith) same_tables);
  buckets = subst (λ (n : ℕ). (bucket : ℕ) → bucket < 256 → bucket_fails n (kernel_word (pending fresh)) bucket ≡ false) (sym pages_now) (new_buckets 64 (kernel_word (pending fresh)) same_tables);
}
  where
    sound : IsSoundKernel (all_durable (new_image 64))
    sound = new_is_sound 64 (omega arith) (omega arith)

    pages : pages_of (all_durable (new_image 64)) ≡ 64
    pages = pages_are (all_durable (new_image 64)) 64 size

    pages_now : pages_of (pending (all_durable (new_image 64))) ≡ 64
    pages_now = pages_are (pending (all_durable (new_image 64))) 64 same_size

    present : (addr : ℕ) → addr % 8 ≡ 0 → addr < 4096 → (word_at (pending (all_durable (new_image 64))) addr).present ≡ (word_at (all_durable (new_image 64)) addr).present
    present addr whole low = ap (λ (w : Word). w.present) (kept addr whole (λ e. omega arith) (λ e. omega arith) (λ e. omega arith) (λ e. omega arith))

    home : IsHome (length (pending (all_durable (new_image 64)))) 153584
    home = let s = same_size in record {
      inside = record { aligned = refl; inside = omega arith };
      outside = λ from. let p = pages_now in omega arith;
    }
