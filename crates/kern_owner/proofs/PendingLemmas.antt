-- One committed pair, for the owner word of a free page: no rule of the kernel's pages fails then.
use Rattle.std.proofs.Common.{◌≡◌, ◌≢◌, ◌⊎◌, inl, inr, ℕ, ◌/◌, ◌%◌, ◌<◌, ◌≤◌, Bool, true, false, List, [], ◌∷◌, length, map, refl, sym, ap, subst, ◌∙◌, arith, nat_eq}
use Rattle.std.specs.Prelude.{All, ◌||◌}
use Rattle.std.specs.List.{range_with_len}
use Rattle.std.proofs.lemmas.Bool.{cases_eq, ne_eqb, eqb-true, or_cases}
use Rattle.std.proofs.lemmas.List.Elements.{All-nil, All-cons}
use Rattle.pm_words.specs.Word.{Word}
use Rattle.pm_words.specs.Memory.{word_at, store_at, IsPages}
use Rattle.pm_words.proofs.WordLemmas.{length_store_at, word_at_stored, word_at_other}
use Rattle.zo_layout.specs.Layout.{page_at, kernel_pages, owner_word, signature_word, version_word, count_word, committed_word, pair_address, pair_value, pair_capacity}
use Rattle.kern_model.specs.KernelView.{pages_of}
use Rattle.kern_model.specs.Journal.{IsHome, committed, committed_count, pair_at, laid_over, kernel_word}
use Rattle.kern_model.specs.KernelTables.{owner_in, is_id, stands_in, owner_fails, entry_fails, bucket_fails}
use Rattle.kern_model.specs.KernelRules.{IsSoundKernel}
use Rattle.kern_model.proofs.FreePages.{pages_are}
use Rattle.kern_owner.specs.Owners.{is_among}
use Rattle.kern_owner.specs.Laws.{HasPassed, IsPassed, TablesPass}
use Rattle.kern_owner.proofs.LawLemmas.{passed, rules_hold, others_kept}

-- the words once one pair stands in the journal
abbrev pub with_pair : ℕ → ℕ → List Word → List Word
with_pair addr value words = store_at committed_word 1 (store_at (pair_value 0) value (store_at (pair_address 0) addr words))

size_with : (addr value : ℕ) (words : List Word) → length (with_pair addr value words) ≡ length words
size_with addr value words =
    length_store_at committed_word 1 (store_at (pair_value 0) value (store_at (pair_address 0) addr words))
    ∙ length_store_at (pair_value 0) value (store_at (pair_address 0) addr words)
    ∙ length_store_at (pair_address 0) addr words

-- a word outside of the journal's first page is as it was
kept_with : (addr value other : ℕ) (words : List Word) → other % 8 ≡ 0 → (other < page_at 1) ⊎ (page_at 2 ≤ other) → word_at (with_pair addr value words) other ≡ word_at words other
kept_with addr value other words whole outside =
    word_at_other committed_word other 1 (store_at (pair_value 0) value (store_at (pair_address 0) addr words)) refl whole (apart committed_word outside (omega arith) (omega arith))
    ∙ word_at_other (pair_value 0) other value (store_at (pair_address 0) addr words) refl whole (apart (pair_value 0) outside (omega arith) (omega arith))
    ∙ word_at_other (pair_address 0) other addr words refl whole (apart (pair_address 0) outside (omega arith) (omega arith))
  where
    apart : (place : ℕ) → (other < page_at 1) ⊎ (page_at 2 ≤ other) → page_at 1 ≤ place → place < page_at 2 → other ≢ place
    apart place (inl lt) low high same = omega arith
    apart place (inr le) low high same = omega arith

count_with : (addr value : ℕ) (words : List Word) → 64 ≤ length words / 512 → committed_count (with_pair addr value words) ≡ 1
count_with addr value words least =
    ap (λ (w : Word). w.present) (word_at_stored committed_word 1 (store_at (pair_value 0) value (store_at (pair_address 0) addr words)) (record { aligned = refl; inside = size }))
  where
    size : committed_word / 8 < length (store_at (pair_value 0) value (store_at (pair_address 0) addr words))
    size =
        let one = length_store_at (pair_value 0) value (store_at (pair_address 0) addr words) in
        let two = length_store_at (pair_address 0) addr words in
        omega arith

pair_with : (addr value : ℕ) (words : List Word) → 64 ≤ length words / 512 → pair_at (with_pair addr value words) 0 ≡ (addr, value)
pair_with addr value words least = λ j. (address j, word j)
  where
    address : (word_at (with_pair addr value words) (pair_address 0)).present ≡ addr
    address =
        ap (λ (w : Word). w.present) (
        word_at_other committed_word (pair_address 0) 1 (store_at (pair_value 0) value (store_at (pair_address 0) addr words)) refl refl (λ e. omega arith)
        ∙ word_at_other (pair_value 0) (pair_address 0) value (store_at (pair_address 0) addr words) refl refl (λ e. omega arith)
        ∙ word_at_stored (pair_address 0) addr words (record { aligned = refl; inside = omega arith }))

    inside : pair_value 0 / 8 < length (store_at (pair_address 0) addr words)
    inside = let size = length_store_at (pair_address 0) addr words in omega arith

    word : (word_at (with_pair addr value words) (pair_value 0)).present ≡ value
    word =
        ap (λ (w : Word). w.present) (
        word_at_other committed_word (pair_value 0) 1 (store_at (pair_value 0) value (store_at (pair_address 0) addr words)) refl refl (λ e. omega arith)
        ∙ word_at_stored (pair_value 0) value (store_at (pair_address 0) addr words) (record { aligned = refl; inside = inside }))

committed_with : (addr value : ℕ) (words : List Word) → 64 ≤ length words / 512 → committed (with_pair addr value words) ≡ (addr, value) ∷ []
committed_with addr value words least =
    ap (λ (n : ℕ). map (pair_at (with_pair addr value words)) (range_with_len 0 n)) (count_with addr value words least)
    ∙ ap (λ (p : ℕ × ℕ). p ∷ []) (pair_with addr value words least)

-- the tables read as they did with the pair laid over them
reads_with : (pages page owner : ℕ) (words : List Word) → 64 ≤ length words / 512 → committed_count words ≡ 0
    → HasPassed pages owner (page ∷ []) (kernel_word words) (kernel_word (with_pair (owner_word pages page) owner words))
reads_with pages page owner words least none addr whole low high =
    ap (λ (pairs : List (ℕ × ℕ)). laid_over pairs addr (word_at (with_pair (owner_word pages page) owner words) addr).present) (committed_with (owner_word pages page) owner words least)
    ∙ ap (λ (w : Word). laid_over ((owner_word pages page, owner) ∷ []) addr w.present) (kept_with (owner_word pages page) owner addr words whole (inr (omega arith)))
    ∙ sym (ap (λ (pairs : List (ℕ × ℕ)). laid_over ((owner_word pages page, owner) ∷ []) addr (laid_over pairs addr (word_at words addr).present)) nothing)
  where
    nothing : committed words ≡ []
    nothing = ap (λ (n : ℕ). map (pair_at words) (range_with_len 0 n)) none

pub pending_is_sound : (pages page owner : ℕ) (words : List Word) → IsPages (length words) pages → IsSoundKernel words → committed_count words ≡ 0 → page < pages → kernel_pages pages ≤ page
    → owner_in pages (kernel_word words) page ≡ 0 → is_id owner ≡ true → stands_in pages (kernel_word words) owner ≡ true → IsSoundKernel (with_pair (owner_word pages page) owner words)
pending_is_sound pages page owner words size sound none lt behind free coffer stands = record {
  signature = present signature_word (omega arith) (omega arith) ∙ sound.signature;
  version = present version_word (omega arith) (omega arith) ∙ sound.version;
  count = present count_word (omega arith) (omega arith) ∙ sound.count ∙ count ∙ sym count_now;
  pairs = record {
    readable = record {
      room = subst (λ (n : ℕ). n ≤ pair_capacity (pages_of (with_pair (owner_word pages page) owner words))) (sym (count_with (owner_word pages page) owner words least)) (omega (arith, count_now));
      homes = subst (λ (pairs : List (ℕ × ℕ)). All (λ p. IsHome (length (with_pair (owner_word pages page) owner words)) p.0) pairs) (sym (committed_with (owner_word pages page) owner words least))
          (All-cons (λ (p : ℕ × ℕ). IsHome (length (with_pair (owner_word pages page) owner words)) p.0) (owner_word pages page, owner) [] home (All-nil (λ (p : ℕ × ℕ). IsHome (length (with_pair (owner_word pages page) owner words)) p.0)));
    };
    spares = subst (λ (pairs : List (ℕ × ℕ)). All (λ p. (p.0 ≢ signature_word) × (p.0 ≢ version_word) × (p.0 ≢ count_word)) pairs) (sym (committed_with (owner_word pages page) owner words least))
        (All-cons (λ (p : ℕ × ℕ). (p.0 ≢ signature_word) × (p.0 ≢ version_word) × (p.0 ≢ count_word)) (owner_word pages page, owner) []
        ((λ e. omega arith), (λ e. omega arith), (λ e. omega arith)) (All-nil (λ (p : ℕ × ℕ). (p.0 ≢ signature_word) × (p.0 ≢ version_word) × (p.0 ≢ count_word))));
  };
  owners = subst (λ (n : ℕ). (p : ℕ) → p < n → owner_fails n (kernel_word (with_pair (owner_word pages page) owner words)) p ≡ false) (sym count_now) tables.owners;
  entries = subst (λ (n : ℕ). (id : ℕ) → 1 ≤ id → id ≤ 256 → entry_fails n (kernel_word (with_pair (owner_word pages page) owner words)) id ≡ false) (sym count_now) tables.entries;
  buckets = subst (λ (n : ℕ). (bucket : ℕ) → bucket < 256 → bucket_fails n (kernel_word (with_pair (owner_word pages page) owner words)) bucket ≡ false) (sym count_now) tables.buckets;
}
  where
    least : 64 ≤ length words / 512
    least = let whole = size.whole in let low = size.least in omega arith

    count : pages_of words ≡ pages
    count = pages_are words pages size.whole

    count_now : pages_of (with_pair (owner_word pages page) owner words) ≡ pages
    count_now = let same = size_with (owner_word pages page) owner words in pages_are (with_pair (owner_word pages page) owner words) pages (same ∙ size.whole)

    present : (addr : ℕ) → addr % 8 ≡ 0 → addr < page_at 1 → (word_at (with_pair (owner_word pages page) owner words) addr).present ≡ (word_at words addr).present
    present addr whole before = ap (λ (w : Word). w.present) (kept_with (owner_word pages page) owner addr words whole (inl before))

    home : IsHome (length (with_pair (owner_word pages page) owner words)) (owner_word pages page)
    home =
        let same = size_with (owner_word pages page) owner words in
        let whole = size.whole in
        let low = size.least in
        record {
          inside = record { aligned = omega arith; inside = omega arith };
          outside = λ from. omega (arith, count_now);
        }

    before : TablesPass pages (kernel_word words)
    before = record {
      owners = subst (λ (n : ℕ). (p : ℕ) → p < n → owner_fails n (kernel_word words) p ≡ false) count sound.owners;
      entries = subst (λ (n : ℕ). (id : ℕ) → 1 ≤ id → id ≤ 256 → entry_fails n (kernel_word words) id ≡ false) count sound.entries;
      buckets = subst (λ (n : ℕ). (bucket : ℕ) → bucket < 256 → bucket_fails n (kernel_word words) bucket ≡ false) count sound.buckets;
    }

    only : (p : ℕ) → is_among (page ∷ []) p ≡ true → p ≡ page
    only p is = by (or_cases (nat_eq p page) false is)
      where
        by : (nat_eq p page ≡ true) ⊎ (false ≡ true) → p ≡ page
        by (inl same) = eqb-true p page same
        by (inr never) = absurd (cc)

    pass : IsPassed pages owner (page ∷ []) (kernel_word words) (kernel_word (with_pair (owner_word pages page) owner words))
    pass = passed pages owner (page ∷ []) (kernel_word words) (kernel_word (with_pair (owner_word pages page) owner words)) (reads_with pages page owner words least none)
        (All-cons (λ p. p < pages) page [] lt (All-nil (λ p. p < pages)))

    kept : (id : ℕ) → 1 ≤ id → (p : ℕ) → p < pages → owner_in pages (kernel_word words) p ≡ id → (p ≡ page) ⊎ (p ≡ page → ⊥) → owner_in pages (kernel_word (with_pair (owner_word pages page) owner words)) p ≡ id
    kept id some p inside is (inl same) = let owned = ap (λ (q : ℕ). owner_in pages (kernel_word words) q) (sym same) in absurd (omega arith)
    kept id some p inside is (inr other) =
        others_kept pages owner (page ∷ []) (kernel_word words) (kernel_word (with_pair (owner_word pages page) owner words)) pass p inside (ap (λ (b : Bool). b || false) (ne_eqb p page other)) ∙ is

    tables : TablesPass pages (kernel_word (with_pair (owner_word pages page) owner words))
    tables =
        rules_hold pages owner (page ∷ []) (kernel_word words) (kernel_word (with_pair (owner_word pages page) owner words)) pass
        (λ p inside is. let same = only p is in omega arith)
        (λ id low high there p which inside is. kept id low p inside is (cases_eq p page))
        coffer stands before
