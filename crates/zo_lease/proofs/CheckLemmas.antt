-- A look at a lease.
use Rattle.std.proofs.Common.{◌≡◌, ℕ, Bool, true, false, List, [], ap, sym, ◌∙◌, refl, subst}
use Rattle.std.specs.Prelude.{not, if◌then◌else◌, ◌==◌}
use Rattle.std.proofs.lemmas.Bool.{eqb-true, and_parts, not-true}
use Rattle.tr_types.specs.declared.entry.Mark.{Mark}
use Rattle.zo_lease.specs.declared.step.Heard.{Heard}
use Rattle.zo_lease.specs.declared.step.Heard.TheVariants as hears
use Rattle.zo_lease.specs.declared.step.End.{End}
use Rattle.zo_lease.specs.declared.step.End.TheVariants as end
use Rattle.zo_lease.specs.declared.check.Check.{Check}
use Rattle.zo_lease.specs.declared.check.Stage.{Stage}
use Rattle.zo_lease.specs.declared.check.Stage.TheVariants as check
use Rattle.zo_lease.specs.Words.{is_kept, is_expired}
use Rattle.zo_lease.specs.Steps.{end_step}
use Rattle.zo_lease.specs.Checks.{first_check, check_after, check_gives, check_step}
use Rattle.zo_lease.specs.Turns.{Turn, with_turn, turns_of}
use Rattle.zo_lease.specs.Laws.{CheckTells, CheckLaw}
use Rattle.zo_lease.proofs.Counts.{kept_on}

abbrev pub looking : ℕ → ℕ → Mark → Stage → Check
looking addr own look stage = record { addr = addr; own = own; mark = look; stage = stage }

-- its first call is made, and this is known of it
pub record KnowsCheck (addr own : ℕ) (look : Mark) (c : Check) (turns : List Turn) : Type 0 where
  pub stage : Stage
  pub is : c ≡ looking addr own look stage
  pub tells : CheckTells addr own look (check_gives (looking addr own look stage) stage) turns
  pub runs : stage ≡ check.Begin → ⊥

ends : (addr own word now : ℕ) (look : Mark) (turns : List Turn) (b : Bool) → is_kept own word now ≡ b
    → CheckTells addr own look (end_step (if b then end.Won 0 word else end.Expired addr word)) (with_turn (check_gives (looking addr own look check.Looking) check.Looking) (hears.Word word) now turns)
ends addr own word now look turns true e =
    let parts = and_parts (word == own) (not (is_expired word now)) e in
    let same : word ≡ own = eqb-true word own parts.0 in
    let kept : is_expired word now ≡ false = not-true (is_expired word now) parts.1 in
    (refl, record { tick = now; earlier = turns; is = refl; own_is = same; kept = ap (λ (w : ℕ). is_expired w now) (sym same) ∙ kept })
ends addr own word now look turns false e = (refl, record { tick = now; earlier = turns; is = refl; lost = e })

over_stays : (addr own now : ℕ) (look : Mark) (heard : Heard) (e : End) (turns : List Turn) → CheckTells addr own look (end_step e) turns
    → CheckTells addr own look (end_step e) (with_turn (end_step e) heard now turns)
over_stays addr own now look heard (end.Won value found) turns k = k
over_stays addr own now look heard (end.Busy at word tick) turns k = k
over_stays addr own now look heard (end.Expired at word) turns k = k
over_stays addr own now look heard (end.Damaged at) turns k = k

no_begin : (e : End) → check.Over e ≡ check.Begin → ⊥
no_begin e is = cc

goes : (addr own : ℕ) (look : Mark) (stage : Stage) (heard : Heard) (now : ℕ) (turns : List Turn) → (stage ≡ check.Begin → ⊥)
    → CheckTells addr own look (check_gives (looking addr own look stage) stage) turns
    → KnowsCheck addr own look (check_after (looking addr own look stage) heard now) (with_turn (check_gives (looking addr own look stage) stage) heard now turns)
goes addr own look check.Begin heard now turns ne k = absurd (ne refl)
goes addr own look check.Looking (hears.Word word) now turns ne k =
    record { stage = check.Over (if is_kept own word now then end.Won 0 word else end.Expired addr word); is = refl; tells = ends addr own word now look turns (is_kept own word now) refl; runs = no_begin _ }
goes addr own look check.Looking hears.Done now turns ne k = record { stage = check.Over (end.Damaged addr); is = refl; tells = tt; runs = no_begin (end.Damaged addr) }
goes addr own look check.Looking hears.Refused now turns ne k = record { stage = check.Over (end.Damaged addr); is = refl; tells = tt; runs = no_begin (end.Damaged addr) }
goes addr own look (check.Over e) heard now turns ne k = record { stage = check.Over e; is = refl; tells = over_stays addr own now look heard e turns k; runs = no_begin e }

knows_next : (addr own : ℕ) (look : Mark) (c : Check) (turns : List Turn) (heard : Heard) (now : ℕ) → KnowsCheck addr own look c turns
    → KnowsCheck addr own look (check_after c heard now) (with_turn (check_step c) heard now turns)
knows_next addr own look c turns heard now k =
    subst (λ (x : Check). KnowsCheck addr own look (check_after x heard now) (with_turn (check_step x) heard now turns)) (sym k.is)
    (goes addr own look k.stage heard now turns k.runs k.tells)

no_looking : check.Looking ≡ check.Begin → ⊥
no_looking is = cc

pub check_history : CheckLaw
check_history addr own look heard now told =
    let c = check_after (first_check addr own look) heard now in
    let first : KnowsCheck addr own look c [] = record { stage = check.Looking; is = refl; tells = refl; runs = no_looking } in
    let k = kept_on check_after check_step (λ u turns. KnowsCheck addr own look u turns) (knows_next addr own look) c first told in
    subst (λ (x : Check). CheckTells addr own look (check_step x) (turns_of check_after check_step c told)) (sym k.is) k.tells
