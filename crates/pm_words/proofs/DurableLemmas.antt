-- Durable lines have no entry.
use Rattle.std.proofs.Common.{◌≡◌, ℕ, ◌/◌, ◌<◌, Option, Some, None, unwrap_or, List, [], length, slice_index_or, nat_eq, refl, sym, ap, ◌∙◌, arith}
use Rattle.std.specs.Option.{IfSome}
use Rattle.std.specs.Map.{lookup}
use Rattle.pm_words.specs.Word.{Word, settled}
use Rattle.pm_words.specs.Memory.{IsLineDurable}
use Rattle.pm_words.specs.View.{Held, no_held, values_at, older_at, words_of, IsLine, IsPendingAt, ArePending}
use Rattle.pm_words.proofs.LogLemmas.{some_value}
use Rattle.pm_words.proofs.ViewLemmas.{length_words_of, words_of_at}

-- a line whose words have no older values has no entry
unheld : (count line : ℕ) (entries : List (ℕ × Held)) → IsPendingAt count entries line → ((k : ℕ) → k < count → k / 8 ≡ line → older_at entries k ≡ [])
    → lookup (nat_eq line) entries ≡ None
unheld count line entries pending durable =
    by (lookup (nat_eq line) entries) pending (λ k lt at. sym (ap (λ (l : ℕ). values_at k (unwrap_or (lookup (nat_eq l) entries) no_held).older) at) ∙ durable k lt at)
  where
    by : (o : Option Held) → IfSome o (IsLine count line) → ((k : ℕ) → k < count → k / 8 ≡ line → values_at k (unwrap_or o no_held).older ≡ []) → o ≡ None
    by None held none = refl
    by (Some h) held none = absurd (some_value line h.older held.places held.some (λ k at. let inside = held.inside in none k (omega (arith, inside, at)) at))

-- a durable line has no entry
pub durable_unheld : (entries : List (ℕ × Held)) (present : List ℕ) (words : List Word) (address line : ℕ) → words_of entries present ≡ words → ArePending (length present) entries
    → line ≡ address / 64 → IsLineDurable words address → lookup (nat_eq line) entries ≡ None
durable_unheld entries present words address line view pending is durable =
    unheld (length present) line entries (pending line) (λ k lt at.
    let len = length_words_of entries present in
    let same : length (words_of entries present) ≡ length words = ap length view in
    let inside : k < length words = omega (arith, len, same, lt) in
    sym (ap (λ (w : Word). w.older) (words_of_at entries present k (settled 0) lt))
    ∙ ap (λ (ws : List Word). (slice_index_or ws k (settled 0)).older) view
    ∙ durable k inside (at ∙ is))
