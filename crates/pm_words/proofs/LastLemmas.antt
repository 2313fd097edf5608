-- An entry that is found by its index.
use Rattle.std.proofs.Common.{◌≡◌, ◌≢◌, ℕ, Option, Some, unwrap_or, nat_eq, slice_get, sym, ap, ◌∙◌}
use Rattle.std.proofs.lemmas.Bool.{ne_eqb}
use Rattle.std.proofs.lemmas.Option.{slice_get-map}
use Rattle.std.proofs.lemmas.Map.Entries.{lookup_from_place}
use Rattle.std.specs.Cmp.{nat_eq_equiv}
use Rattle.std.specs.Option.{option_map}
use Rattle.std.specs.Map.{lookup}
use Rattle.indexmap.specs.IndexMap.{IndexMap, IsUnique, values, set_value_at}
use Rattle.indexmap.proofs.CallerLemmas.{updates-with_value_at}
use Rattle.pm_words.specs.View.{Held, no_held, held_at}

-- `at` shows the line there, `read` its value, and w is written in its place
module _ {S : Type 0} (m : IndexMap ℕ Held S) (i line : ℕ) (h read w : Held) (unique : IsUnique nat_eq m)
    (at : slice_get m.entries i ≡ Some (line, h)) (value : Some read ≡ slice_get (values m) i) where
  is_read : Some read ≡ Some h
  is_read = value ∙ slice_get-map (λ (e : ℕ × Held). e.1) m.entries i ∙ ap (λ (o : Option (ℕ × Held)). option_map (λ (e : ℕ × Held). e.1) o) at

  pub found : lookup (nat_eq line) m.entries ≡ Some read
  found = lookup_from_place nat_eq_equiv m.entries i line h unique at ∙ sym is_read

  pub written : lookup (nat_eq line) (set_value_at m.entries i w) ≡ Some w
  written = let (all, here, others, rest) = updates-with_value_at m i w nat_eq_equiv unique line h at in here

  pub apart : (l : ℕ) → l ≢ line → lookup (nat_eq l) (set_value_at m.entries i w) ≡ lookup (nat_eq l) m.entries
  apart l ne = let (all, here, others, rest) = updates-with_value_at m i w nat_eq_equiv unique line h at in others l (ne_eqb line l (λ e. ne (sym e)))

  pub held_before : held_at m.entries line ≡ read
  held_before = ap (λ (o : Option Held). unwrap_or o no_held) found

  pub held_after : held_at (set_value_at m.entries i w) line ≡ w
  held_after = ap (λ (o : Option Held). unwrap_or o no_held) written
