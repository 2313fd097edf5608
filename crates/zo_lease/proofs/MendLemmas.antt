-- What an expired lease asks for, step by step.
use Rattle.std.proofs.Common.{◌≡◌, ◌≢◌, inl, inr, ℕ, ◌≤◌, Bool, true, false, List, ◌∷◌, ap, refl, arith}
use Rattle.std.specs.Prelude.{if◌then◌else◌, ◌==◌}
use Rattle.std.proofs.lemmas.Bool.{eqb-true, eqb-false}
use Rattle.tr_types.specs.declared.action.Action.TheVariants as action
use Rattle.tr_types.specs.declared.entry.Mark.TheVariants as mark
use Rattle.zo_lease.specs.declared.step.Heard.{Heard}
use Rattle.zo_lease.specs.declared.step.Heard.TheVariants as hears
use Rattle.zo_lease.specs.declared.mend.Mend.{Mend}
use Rattle.zo_lease.specs.declared.mend.Mend.TheVariants as mend
use Rattle.zo_lease.specs.declared.mend.Mending.{Mending}
use Rattle.zo_lease.specs.declared.mend.Mending.TheVariants as mending
use Rattle.zo_lease.specs.Words.{noted_word}
use Rattle.zo_lease.specs.Mends.{mend_step, mend_after}
use Rattle.zo_lease.specs.Turns.{Turn, with_turn, Flushed, Mended}

-- the turn in which the noted address was loaded
abbrev pub loading : ℕ → ℕ → ℕ → Turn
loading lease at now = record { action = action.Load (noted_word lease); mark = mark.Plain; heard = hears.Word at; now = now }

abbrev pub KnowsMend : ℕ → List Turn → Mend → List Turn → Type 0
KnowsMend lease before mend.Noted turns = turns ≡ before
KnowsMend lease before (mend.Flush at) turns = (at ≢ 0) × (now : ℕ) × (turns ≡ loading lease at now ∷ before)
KnowsMend lease before mend.Fence turns = Flushed lease before turns

abbrev pub KnowsMending : ℕ → List Turn → Mending → List Turn → Type 0
KnowsMending lease before (mending.On mend) turns = KnowsMend lease before mend turns
KnowsMending lease before mending.Done turns = Mended lease before turns
KnowsMending lease before mending.Refused turns = Unit {0}

noted : (lease at now : ℕ) (before turns : List Turn) → turns ≡ before → (b : Bool) → (at == 0) ≡ b
    → KnowsMend lease before (if b then mend.Fence else mend.Flush at) (loading lease at now ∷ turns)
noted lease at now before turns is true e =
    record { at = at; tick = now; loaded = loading lease at now ∷ turns; load = ap (λ (ts : List Turn). loading lease at now ∷ ts) is; flush = inl (eqb-true at 0 e, refl) }
noted lease at now before turns is false e = (eqb-false at 0 e, now, ap (λ (ts : List Turn). loading lease at now ∷ ts) is)

pub mend_knows : (lease : ℕ) (before turns : List Turn) (m : Mend) (heard : Heard) (now : ℕ) → KnowsMend lease before m turns
    → KnowsMending lease before (mend_after m heard) (with_turn (mend_step lease m) heard now turns)
mend_knows lease before turns mend.Noted (hears.Word at) now k = noted lease at now before turns k (at == 0) refl
mend_knows lease before turns mend.Noted hears.Done now k = tt
mend_knows lease before turns mend.Noted hears.Refused now k = tt
mend_knows lease before turns (mend.Flush at) heard now (some, tick, is) =
    record { at = at; tick = tick; loaded = turns; load = is; flush = inr (some, heard, now, refl) }
mend_knows lease before turns mend.Fence heard now k = record { heard = heard; now = now; earlier = turns; is = refl; flushed = k }

-- how many actions it and the try before it have made at most
abbrev pub mends_most : Mend → ℕ
mends_most mend.Noted = 3
mends_most (mend.Flush at) = 4
mends_most mend.Fence = 5

pub noted_most : (at : ℕ) (b : Bool) → 4 ≤ mends_most (if b then mend.Fence else mend.Flush at)
noted_most at true = omega arith
noted_most at false = omega arith
