use Rattle.std.proofs.Common.{◌≢◌, ℕ, ◌<◌, ◌≤◌, List, length, subst, sym, arith, All}
use Rattle.std.proofs.lemmas.List.FromFn.{length-map-range_with_len, get_or-map-range_with_len}
use Rattle.zo_layout.specs.Layout.{signature_word, version_word, count_word, pair_address, pair_capacity}
use Rattle.pm_words.specs.Word.{Word}
use Rattle.pm_words.specs.Memory.{word_at}
use Rattle.kern_model.specs.KernelView.{pages_of}
use Rattle.kern_model.specs.Journal.{IsHome, committed, committed_count, pair_at}
use Rattle.kern_model.specs.KernelRules.{IsFinishable}
use Rattle.kern_view.specs.RuleParts.{IsTarget}

abbrev IsSpared : ℕ → Type 0
IsSpared addr = (addr ≢ signature_word) × (addr ≢ version_word) × (addr ≢ count_word)

-- what holds of each pair holds of all committed ones, and what holds of all holds of each
of_each : (words : List Word) (P : ℕ × ℕ → Type 0) → ((k : ℕ) → k < committed_count words → P (pair_at words k)) → All P (committed words)
of_each words P each k d lt =
    let inside : k < committed_count words = omega (arith, length-map-range_with_len (pair_at words) 0 (committed_count words)) in
    subst P (sym (get_or-map-range_with_len (pair_at words) 0 (committed_count words) k k d inside (omega arith))) (each k inside)

of_all : (words : List Word) (P : ℕ × ℕ → Type 0) → All P (committed words) → (k : ℕ) → k < committed_count words → P (pair_at words k)
of_all words P all k lt =
    let inside : k < length (committed words) = omega (arith, length-map-range_with_len (pair_at words) 0 (committed_count words)) in
    subst P (get_or-map-range_with_len (pair_at words) 0 (committed_count words) k k (0, 0) lt (omega arith)) (all k (0, 0) inside)

pub finishable_from : (words : List Word) → committed_count words ≤ pair_capacity (pages_of words)
    → ((k : ℕ) → k < committed_count words → IsTarget words (word_at words (pair_address k)).present) → IsFinishable words
finishable_from words room each = record {
  readable = record {
    room = room;
    homes = of_each words (λ p. IsHome (length words) p.0) (λ k lt. (each k lt).home);
  };
  spares = of_each words (λ p. IsSpared p.0) (λ k lt. (each k lt).spared);
}

pub target_from : (words : List Word) → IsFinishable words → (k : ℕ) → k < committed_count words → IsTarget words (word_at words (pair_address k)).present
target_from words finishable k lt = record {
  home = of_all words (λ p. IsHome (length words) p.0) finishable.readable.homes k lt;
  spared = of_all words (λ p. IsSpared p.0) finishable.spares k lt;
}
