-- A value for each thread, with one changed.
use Rattle.std.proofs.Common.{◌≡◌, ◌≢◌, ◌⊎◌, inl, inr, ℕ, ◌<◌, Bool, cond, List, length, get_or, Option, Some, None, refl, sym, ap, ◌∙◌}
use Rattle.std.specs.Prelude.{slice_set, unwrap_or}
use Rattle.std.specs.List.{slice_get}
use Rattle.std.proofs.lemmas.Bool.{cases_eq, eq-eqb, ne_eqb}
use Rattle.std.proofs.lemmas.Grind.{get_or-set_at}
use Rattle.std.proofs.lemmas.List.{get_or-set_other}
use Rattle.std.proofs.lemmas.Option.{unwrap_or-slice_get}
use Rattle.tr_core.specs.Places.{flat, place_in}
use Rattle.tr_core.specs.declared.calls.Waiting.{Waiting}
use Rattle.tr_model.specs.Worlds.{put}
use Rattle.tr_dispatch.proofs.Worlds.{put_other}

pub put_at : {X : Type 0} (at : ℕ → X) (thread : ℕ) (x : X) (t : ℕ) → t ≡ thread → put at thread x t ≡ x
put_at at thread x t is = ap (λ (b : Bool). cond b x (at t)) (eq-eqb t thread is)

-- The places of threads.

flat_is : (o : Option (Option Waiting)) → flat o ≡ unwrap_or o None
flat_is None = refl
flat_is (Some place) = refl

as_get : (places : List (Option Waiting)) (t : ℕ) → place_in places t ≡ get_or places t None
as_get places t = flat_is (slice_get places t) ∙ unwrap_or-slice_get places t None

pub place_set : (places : List (Option Waiting)) (thread : ℕ) (c : Option Waiting) → thread < length places → (t : ℕ) → place_in (slice_set places thread c) t ≡ put (place_in places) thread c t
place_set places thread c lt t = as_get (slice_set places thread c) t ∙ by (cases_eq t thread)
  where
    by : (t ≡ thread) ⊎ (t ≢ thread) → get_or (slice_set places thread c) t None ≡ put (place_in places) thread c t
    by (inl same) = get_or-set_at places thread t c None same lt ∙ sym (put_at (place_in places) thread c t same)
    by (inr other) = get_or-set_other places thread t c None other ∙ sym (as_get places t) ∙ sym (put_other (place_in places) thread c t other)

-- a value that is taken out first and then put makes no difference
pub put_twice : {X : Type 0} (at taken : ℕ → X) (thread : ℕ) (none x : X) → ((t : ℕ) → taken t ≡ put at thread none t) → (t : ℕ) → put taken thread x t ≡ put at thread x t
put_twice at taken thread none x left t = by (cases_eq t thread)
  where
    by : (t ≡ thread) ⊎ (t ≢ thread) → put taken thread x t ≡ put at thread x t
    by (inl same) = put_at taken thread x t same ∙ sym (put_at at thread x t same)
    by (inr other) = put_other taken thread x t other ∙ left t ∙ put_other at thread none t other ∙ sym (put_other at thread x t other)
