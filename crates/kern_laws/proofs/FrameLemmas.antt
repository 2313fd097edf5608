-- When the kernel works over what is left: after a commit, and after a store to a page that isn't the kernel's.
use Rattle.std.proofs.Common.{◌≡◌, ◌≢◌, ℕ, ◌/◌, ◌%◌, ◌<◌, ◌≤◌, true, List, map, length, sym, ap, subst, ◌∙◌, arith}
use Rattle.std.specs.Prelude.{All, Contains}
use Rattle.std.specs.List.{range_with_len}
use Rattle.std.proofs.lemmas.List.Elements.{All-nil, All-weaker, All-contains}
use Rattle.zo_layout.specs.Layout.{kernel_pages, signature_word, version_word, count_word, committed_word}
use Rattle.pm_words.specs.Word.{Word, settled, crash_list}
use Rattle.pm_words.specs.Memory.{word_at, store_at, HasPages}
use Rattle.pm_words.proofs.WordLemmas.{length_store_at, other_place}
use Rattle.kern_model.specs.KernelView.{pages_of}
use Rattle.kern_model.specs.Journal.{IsHome, pair_at, committed, committed_count, laid_over, kernel_word}
use Rattle.kern_model.specs.JournalLaws.{IsDurable}
use Rattle.kern_model.specs.Kernel.{read_after}
use Rattle.kern_model.specs.KernelTables.{is_id, stands_in}
use Rattle.kern_model.specs.KernelRules.{IsFinishable}
use Rattle.kern_model.specs.KernelCalls.{Row}
use Rattle.kern_model.specs.Commits.{present_at, IsOuter, IsCommitted, IsWorking, RowKeeps, StoreLaw, HasSteadyTables}
use Rattle.tr_types.specs.declared.kernel_call.Holder.{Holder}
use Rattle.kern_model.proofs.LaidLemmas.{laid_unnamed}
use Rattle.kern_model.proofs.FinishLemmas.{idle_read}
use Rattle.kern_owner.specs.Laws.{SameTables, TablesPass}
use Rattle.kern_laws.specs.Rows.{KeepsTables}
use Rattle.kern_laws.proofs.TablesLemmas.{same_coffers, held_still, tables_same, tables_of}

-- Where nothing is committed, that can be finished.

none_committed : (words : List Word) (P : ℕ × ℕ → Type 0) → committed_count words ≡ 0 → All P (committed words)
none_committed words P none = subst (λ (n : ℕ). All P (map (pair_at words) (range_with_len 0 n))) (sym none) (All-nil P)

finishable : (words : List Word) → committed_count words ≡ 0 → IsFinishable words
finishable words none = record {
  readable = record { room = omega arith; homes = none_committed words (λ p. IsHome (length words) p.0) none };
  spares = none_committed words (λ p. (p.0 ≢ signature_word) × (p.0 ≢ version_word) × (p.0 ≢ count_word)) none;
}

-- The kernel works over other words, where the superblock says the same, nothing is committed, and no rule of the tables fails.

pub record SameFront (words new : List Word) : Type 0 where
  pub signature : present_at new signature_word ≡ present_at words signature_word
  pub version : present_at new version_word ≡ present_at words version_word
  pub count : present_at new count_word ≡ present_at words count_word

pub works : (words new : List Word) (old holders : List Holder) → IsWorking words old → length new ≡ length words → IsDurable new committed_word 0 → SameFront words new
    → TablesPass (pages_of words) (kernel_word new) → All (λ h. is_id h.id ≡ true) holders → All (λ h. stands_in (pages_of words) (kernel_word new) h.id ≡ true) holders
    → IsWorking new holders
works words new old holders w len idle front tables ids held = record {
  size = subst (λ (n : ℕ). HasPages n) (sym len) w.size;
  sound = record {
    signature = front.signature ∙ w.sound.signature;
    version = front.version ∙ w.sound.version;
    count = front.count ∙ w.sound.count ∙ sym same;
    pairs = finishable new idle.present;
    owners = passes.owners;
    entries = passes.entries;
    buckets = passes.buckets;
  };
  idle = idle;
  ids = ids;
  held = subst (λ (n : ℕ). All (λ (h : Holder). stands_in n (kernel_word new) h.id ≡ true) holders) (sym same) held;
}
  where
    same : pages_of new ≡ pages_of words
    same = ap (λ (n : ℕ). n / 512) len

    passes : TablesPass (pages_of new) (kernel_word new)
    passes = subst (λ (n : ℕ). TablesPass n (kernel_word new)) (sym same) tables

-- A commit.

pub frame : (words : List Word) (holders : List Holder) (row : Row) → IsWorking words holders → KeepsTables words row → RowKeeps words row
frame words holders row w k =
    (k.may, λ new c. works words new holders row.holders w c.len c.idle (front new c) (k.tables (kernel_word new) (same new c)) k.ids (k.held (kernel_word new) (same new c)))
  where
    given : (page : ℕ) → Contains row.granted page → kernel_pages (pages_of words) ≤ page
    given page has = (All-contains (IsOuter words) row.granted page k.may.pages has).past

    same : (new : List Word) → IsCommitted row.granted row.pairs words new → SameTables (pages_of words) (read_after row.pairs (kernel_word words)) (kernel_word new)
    same new c addr whole low high =
        let least = w.size.least in
        let all = w.size.whole in
        let home : IsHome (length words) addr = record { inside = record { aligned = whole; inside = omega arith }; outside = λ past. low } in
        idle_read new addr c.idle.present
        ∙ c.reads addr home (λ has. let le = given (addr / 4096) has in omega arith)
        ∙ ap (λ (v : ℕ). laid_over row.pairs addr v) (sym (idle_read words addr w.idle.present))

    -- a word of the superblock that no pair is for
    stays : (new : List Word) → IsCommitted row.granted row.pairs words new → (addr : ℕ) → addr < 4096 → addr % 8 ≡ 0 → All (λ p. p.0 ≢ addr) row.pairs
        → present_at new addr ≡ present_at words addr
    stays new c addr first whole unnamed =
        let least = w.size.least in
        let all = w.size.whole in
        let home : IsHome (length words) addr = record { inside = record { aligned = whole; inside = omega arith }; outside = λ past. absurd (omega arith) } in
        c.reads addr home (λ has. let le = given (addr / 4096) has in omega arith)
        ∙ laid_unnamed row.pairs addr (present_at words addr) unnamed

    front : (new : List Word) → IsCommitted row.granted row.pairs words new → SameFront words new
    front new c = record {
      signature = stays new c signature_word (omega arith) (omega arith) (All-weaker (Spares) (λ p. p.0 ≢ signature_word) (λ p s. s.0) row.pairs k.spares);
      version = stays new c version_word (omega arith) (omega arith) (All-weaker (Spares) (λ p. p.0 ≢ version_word) (λ p s. s.1) row.pairs k.spares);
      count = stays new c count_word (omega arith) (omega arith) (All-weaker (Spares) (λ p. p.0 ≢ count_word) (λ p s. s.2) row.pairs k.spares);
    }
      where
        Spares : ℕ × ℕ → Type 0
        Spares p = (p.0 ≢ signature_word) × (p.0 ≢ version_word) × (p.0 ≢ count_word)

-- A store to a page that isn't the kernel's.

pub store_keeps : StoreLaw
store_keeps words holders addr value w outer = record {
  works = works words new holders holders w (length_store_at addr value words) idle front
      (tables_same (pages_of words) (kernel_word words) (kernel_word new) tables (tables_of words w.sound)) w.ids
      (held_still (pages_of words) (kernel_word words) (kernel_word new) holders (same_coffers (pages_of words) (kernel_word words) (kernel_word new) tables) w.ids w.held);
  same = λ other below. ap (λ (w : Word). w.present) (stays other below);
  steady = λ before at home low left there.
      let len : length (store_at addr value words) ≡ length words = length_store_at addr value words in
      let below : at / 4096 < kernel_pages (pages_of words) = subst (λ (n : ℕ). at / 4096 < kernel_pages (n / 512)) len low in
      before at (subst (λ (n : ℕ). IsHome n at) len home) below left (subst (λ (w : Word). Contains (crash_list w) left) (stays at below) there)
      ∙ sym (ap (λ (w : Word). w.present) (stays at below));
}
  where
    new : List Word
    new = store_at addr value words

    stays : (other : ℕ) → other / 4096 < kernel_pages (pages_of words) → word_at new other ≡ word_at words other
    stays other below = other_place addr value words (other / 8) (settled 0) (λ same. let past = outer.past in omega arith)

    idle : IsDurable new committed_word 0
    idle = record {
      present = ap (λ (w : Word). w.present) (stays committed_word (omega arith)) ∙ w.idle.present;
      older = ap (λ (w : Word). w.older) (stays committed_word (omega arith)) ∙ w.idle.older;
    }

    front : SameFront words new
    front = record {
      signature = ap (λ (w : Word). w.present) (stays signature_word (omega arith));
      version = ap (λ (w : Word). w.present) (stays version_word (omega arith));
      count = ap (λ (w : Word). w.present) (stays count_word (omega arith));
    }

    tables : SameTables (pages_of words) (kernel_word words) (kernel_word new)
    tables at whole low high =
        idle_read new at idle.present
        ∙ ap (λ (w : Word). w.present) (stays at (omega arith))
        ∙ sym (idle_read words at w.idle.present)
