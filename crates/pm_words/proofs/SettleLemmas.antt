-- A pending word that is taken out, with the value left in it that a crash leaves.
use Rattle.std.proofs.Common.{◌≡◌, ◌≢◌, ℕ, ◌+◌, ◌*◌, ◌/◌, ◌%◌, ◌≤◌, Bool, true, false, cond, Option, Some, None, unwrap_or, List, [], ◌∷◌, ◌++◌, slice_index_or, nat_eq, refl, sym, ap, subst, ◌∙◌, inl, inr, ◌⊎◌, arith}
use Rattle.std.proofs.lemmas.Bool.{cases_eq, eq-eqb, ne_eqb}
use Rattle.std.specs.Option.{IfSome}
use Rattle.std.specs.Map.{lookup}
use Rattle.pm_words.specs.declared.choice.Choice.{Choice}
use Rattle.pm_words.specs.declared.choice.Choice.TheVariants as pick
use Rattle.pm_words.specs.Crash.{picked}
use Rattle.pm_words.specs.View.{Held, no_held, values_at, older_at, IsLine, IsPendingAt, ArePending}

-- what a look-up finds in the last entry, where no earlier one passes
lookup_last : (test : ℕ → Bool) (es : List (ℕ × Held)) (e : ℕ × Held) → lookup test es ≡ None → test e.0 ≡ true → lookup test (es ++ e ∷ []) ≡ Some e.1
lookup_last test [] e none here = ap (λ (b : Bool). cond b (Some e.1) None) here
lookup_last test (x ∷ es) e none here = by (test x.0) refl (lookup_last test es e)
  where
    by : (b : Bool) → test x.0 ≡ b → (lookup test es ≡ None → test e.0 ≡ true → lookup test (es ++ e ∷ []) ≡ Some e.1) → lookup test (x ∷ es ++ e ∷ []) ≡ Some e.1
    by true is rest = let found : Some x.1 ≡ None = sym (ap (λ (b : Bool). cond b (Some x.1) (lookup test es)) is) ∙ none in absurd cc
    by false is rest =
        ap (λ (b : Bool). cond b (Some x.1) (lookup test (es ++ e ∷ []))) is
        ∙ rest (sym (ap (λ (b : Bool). cond b (Some x.1) (lookup test es)) is) ∙ none) here

-- a crash leaves the value of a durable word
pub picked_durable : (choice : Choice) (address value : ℕ) → picked choice address [] value ≡ value
picked_durable pick.All address value = refl
picked_durable pick.None address value = refl
picked_durable (pick.Seed seed) address value = first _
  where
    first : (hash : ℕ) → slice_index_or (value ∷ []) (hash % 1) value ≡ value
    first hash = let zero : hash % 1 ≡ 0 = omega arith in ap (λ (i : ℕ). slice_index_or (value ∷ []) i value) zero

-- the last entry is taken out
module _ (old new : List (ℕ × Held)) (line : ℕ) (h : Held)
    (popped : old ≡ new ++ (line, h) ∷ [])
    (gone : lookup (nat_eq line) new ≡ None)
    (others : (k : ℕ) → nat_eq line k ≡ false → lookup (nat_eq k) new ≡ lookup (nat_eq k) old) where
  was : lookup (nat_eq line) old ≡ Some h
  was = ap (λ (es : List (ℕ × Held)). lookup (nat_eq line) es) popped ∙ lookup_last (nat_eq line) new (line, h) gone (eq-eqb line line refl)

  stays : (l : ℕ) → (l ≡ line → ⊥) → lookup (nat_eq l) new ≡ lookup (nat_eq l) old
  stays l ne = others l (ne_eqb line l (λ e. ne (sym e)))

  pub popped_inside : (count : ℕ) → ArePending count old → 8 * line + 8 ≤ count
  popped_inside count pending = (subst (λ (o : Option Held). IfSome o (IsLine count line)) was (pending line)).inside

  pub popped_pending : (count : ℕ) → ArePending count old → ArePending count new
  popped_pending count pending l = at (cases_eq l line)
    where
      at : (l ≡ line) ⊎ (l ≡ line → ⊥) → IsPendingAt count new l
      at (inl e) = subst (λ (j : ℕ). IsPendingAt count new j) (sym e) (subst (λ (o : Option Held). IfSome o (IsLine count line)) (sym gone) tt)
      at (inr ne) = subst (λ (o : Option Held). IfSome o (IsLine count l)) (sym (stays l ne)) (pending l)

  -- and the crash's values left in its words: a crash leaves the same as before
  pub popped_left : (choice : Choice) (before after : List ℕ)
      → ((k : ℕ) → k / 8 ≡ line → slice_index_or after k 0 ≡ picked choice (8 * k) (values_at k h.older) (slice_index_or before k 0))
      → ((k : ℕ) → k / 8 ≢ line → slice_index_or after k 0 ≡ slice_index_or before k 0)
      → (k : ℕ) → picked choice (8 * k) (older_at new k) (slice_index_or after k 0) ≡ picked choice (8 * k) (older_at old k) (slice_index_or before k 0)
  popped_left choice before after here kept k = at (cases_eq (k / 8) line)
    where
      in_line : (o : Option Held) → ℕ → ℕ
      in_line o value = picked choice (8 * k) (values_at k (unwrap_or o no_held).older) value

      at : (k / 8 ≡ line) ⊎ (k / 8 ≡ line → ⊥)
          → picked choice (8 * k) (older_at new k) (slice_index_or after k 0) ≡ picked choice (8 * k) (older_at old k) (slice_index_or before k 0)
      at (inl e) =
          ap (λ (l : ℕ). in_line (lookup (nat_eq l) new) (slice_index_or after k 0)) e
          ∙ ap (λ (o : Option Held). in_line o (slice_index_or after k 0)) gone
          ∙ picked_durable choice (8 * k) (slice_index_or after k 0)
          ∙ here k e
          ∙ sym (ap (λ (o : Option Held). in_line o (slice_index_or before k 0)) was)
          ∙ sym (ap (λ (l : ℕ). in_line (lookup (nat_eq l) old) (slice_index_or before k 0)) e)
      at (inr ne) =
          ap (λ (o : Option Held). in_line o (slice_index_or after k 0)) (stays (k / 8) ne)
          ∙ ap (λ (v : ℕ). picked choice (8 * k) (older_at old k) v) (kept k ne)
