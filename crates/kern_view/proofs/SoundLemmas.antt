use Rattle.std.proofs.Common.{◌≡◌, ◌≢◌, ◌⊎◌, inl, inr, ℕ, ◌/◌, ◌%◌, ◌<◌, ◌≤◌, List, [], ◌∷◌, Bool, false, length, map, refl, sym, ap, subst, ◌∙◌, arith, All, ◌==◌}
use Rattle.std.specs.List.{range_with_len}
use Rattle.std.proofs.lemmas.Bool.{cases_lt, cond-false, ne_eqb}
use Rattle.std.proofs.lemmas.List.{get_or_past}
use Rattle.std.proofs.lemmas.List.Elements.{All-head, All-tail, All-weaker}
use Rattle.zo_layout.specs.Layout.{signature_word, version_word, count_word, page_at, owner_table}
use Rattle.pm_words.specs.Word.{Word, settled}
use Rattle.pm_words.specs.Memory.{word_at, HasPages}
use Rattle.kern_model.specs.KernelView.{pages_of}
use Rattle.kern_model.specs.Journal.{IsHome, IsReadable, committed, committed_count, kernel_word, laid_over, pair_at}
use Rattle.kern_model.specs.KernelTables.{owner_fails, entry_fails, bucket_fails}
use Rattle.kern_model.specs.KernelRules.{IsSoundKernel}
use Rattle.kern_view.proofs.SameTables.{ReadSame, same_owner_fails, same_entry_fails, same_bucket_fails}

-- pairs for other addresses say nothing of this one
unnamed : (pairs : List (ℕ × ℕ)) (addr default : ℕ) → All (λ p. p.0 ≢ addr) pairs → laid_over pairs addr default ≡ default
unnamed [] addr default none = refl
unnamed (p ∷ ps) addr default none =
    ap (laid_over ps addr) (cond-false (p.0 == addr) p.1 default (ne_eqb p.0 addr (All-head (λ (p : ℕ × ℕ). p.0 ≢ addr) p ps none)))
    ∙ unnamed ps addr default (All-tail (λ (p : ℕ × ℕ). p.0 ≢ addr) p ps none)

none_committed : (words : List Word) → committed_count words ≡ 0 → committed words ≡ []
none_committed words zero = ap (λ (n : ℕ). map (pair_at words) (range_with_len 0 n)) zero

idle_word : (words : List Word) (addr : ℕ) → committed_count words ≡ 0 → kernel_word words addr ≡ (word_at words addr).present
idle_word words addr zero = ap (λ (pairs : List (ℕ × ℕ)). laid_over pairs addr (word_at words addr).present) (none_committed words zero)

past_end : (words : List Word) (addr : ℕ) → length words ≤ addr / 8 → (word_at words addr).present ≡ 0
past_end words addr past = ap (λ (w : Word). w.present) (get_or_past words (addr / 8) (settled 0) past)

-- what stands of words whose committed pairs were finished
pub record IsRead (old new : List Word) : Type 0 where
  pub size : HasPages (length old)
  pub len : length new ≡ length old
  pub idle : committed_count new ≡ 0
  pub view : (addr : ℕ) → IsHome (length old) addr → kernel_word new addr ≡ kernel_word old addr

same_pages : (old new : List Word) → IsRead old new → pages_of new ≡ pages_of old
same_pages old new is = ap (λ (n : ℕ). n / 512) is.len

read_same : (old new : List Word) → IsRead old new → IsReadable old → ReadSame (pages_of old) (kernel_word new) (kernel_word old)
read_same old new is readable = record { same = λ addr aligned behind. by addr aligned behind (cases_lt (addr / 8) (length old)) }
  where
    by : (addr : ℕ) → addr % 8 ≡ 0 → page_at (owner_table (pages_of old)) ≤ addr → (addr / 8 < length old) ⊎ (length old ≤ addr / 8)
        → kernel_word new addr ≡ kernel_word old addr
    by addr aligned behind (inl inside) =
        is.view addr (record { inside = record { aligned = aligned; inside = inside }; outside = λ _. behind })
    by addr aligned behind (inr past) =
        let len = is.len in
        let far : length new ≤ addr / 8 = omega arith in
        let others = All-weaker (λ (p : ℕ × ℕ). IsHome (length old) p.0) (λ (p : ℕ × ℕ). p.0 ≢ addr)
        (λ p home e. let inside : p.0 / 8 < length old = home.inside.inside in omega (arith, ap (λ (n : ℕ). n / 8) e)) (committed old) readable.homes in
        idle_word new addr is.idle ∙ past_end new addr far
        ∙ sym (unnamed (committed old) addr (word_at old addr).present others ∙ past_end old addr past)

-- a word of the superblock's page keeps its value, where no pair is for it
kept : (old new : List Word) → IsRead old new → (addr : ℕ) → addr % 8 ≡ 0 → addr < 4096 → All (λ p. p.0 ≢ addr) (committed old)
    → (word_at new addr).present ≡ (word_at old addr).present
kept old new is addr aligned low others =
    let least = is.size.least in
    let whole = is.size.whole in
    sym (idle_word new addr is.idle)
    ∙ is.view addr (record { inside = record { aligned = aligned; inside = omega arith }; outside = λ behind. absurd (omega arith) })
    ∙ unnamed (committed old) addr (word_at old addr).present others

pub sound_after : (old new : List Word) → IsRead old new → IsSoundKernel old → IsSoundKernel new
sound_after old new is sound = record {
  signature = kept old new is signature_word (omega arith) (omega arith) (All-weaker Spared (λ p. p.0 ≢ signature_word) (λ p spared. spared.0) pairs spares) ∙ sound.signature;
  version = kept old new is version_word (omega arith) (omega arith) (All-weaker Spared (λ p. p.0 ≢ version_word) (λ p spared. spared.1) pairs spares) ∙ sound.version;
  count = kept old new is count_word (omega arith) (omega arith) (All-weaker Spared (λ p. p.0 ≢ count_word) (λ p spared. spared.2) pairs spares) ∙ sound.count ∙ sym same;
  pairs = record {
    readable = record { room = omega (arith, is.idle); homes = subst (All (λ p. IsHome (length new) p.0)) (sym (none_committed new is.idle)) (λ k d lt. absurd (omega arith)) };
    spares = subst (All Spared) (sym (none_committed new is.idle)) (λ k d lt. absurd (omega arith));
  };
  owners = λ page lt. at_pages (λ n. owner_fails n (kernel_word new) page) (λ i. same_owner_fails (pages_of old) (kernel_word new) (kernel_word old) reads i page)
      (sound.owners page (omega (arith, same)));
  entries = λ id low high. at_pages (λ n. entry_fails n (kernel_word new) id) (λ i. same_entry_fails (pages_of old) (kernel_word new) (kernel_word old) reads i id)
      (sound.entries id low high);
  buckets = λ bucket lt. at_pages (λ n. bucket_fails n (kernel_word new) bucket) (λ i. same_bucket_fails (pages_of old) (kernel_word new) (kernel_word old) reads i bucket)
      (sound.buckets bucket lt);
}
  where
    pairs : List (ℕ × ℕ)
    pairs = committed old

    Spared : ℕ × ℕ → Type 0
    Spared p = (p.0 ≢ signature_word) × (p.0 ≢ version_word) × (p.0 ≢ count_word)

    spares : All Spared (committed old)
    spares = sound.pairs.spares

    same : pages_of new ≡ pages_of old
    same = same_pages old new is

    reads : ReadSame (pages_of old) (kernel_word new) (kernel_word old)
    reads = read_same old new is sound.pairs.readable

    at_pages : (fails : ℕ → Bool) {b : Bool} → fails (pages_of old) ≡ b → b ≡ false → fails (pages_of new) ≡ false
    at_pages fails e no_fault = ap fails same ∙ e ∙ no_fault
