-- A run answers that a lease has expired exactly where a look before the commit has shown it.
use Rattle.std.proofs.Common.{◌≡◌, ℕ, List, [], ◌∷◌, Bool, true, false, cond, Option, Some, None, refl, sym, ap, ◌∙◌}
use Rattle.tr_types.specs.declared.action.Answer.{Answer}
use Rattle.tr_types.specs.declared.action.Answer.TheVariants.{Word, Done, Fault, Kern}
use Rattle.tr_types.specs.declared.action.FaultKind.{FaultKind}
use Rattle.zo_plan.specs.declared.deed.Deed.{Deed}
use Rattle.zo_plan.specs.declared.deed.Deed.TheVariants.{Store, Count, Raise, Look, Flush, Fence}
use Rattle.zo_plan.specs.declared.deed.Due.{Due}
use Rattle.zo_plan.specs.declared.deed.Verdict.TheVariants.{GoesOn, Taken, Ends}
use Rattle.zo_plan.specs.declared.held.Held.{Held}
use Rattle.zo_plan.specs.declared.run.Step.TheVariants as step
use Rattle.zo_plan.specs.Deeds.{judged_early, judged_late, word_in}
use Rattle.zo_plan.specs.Leases.{is_shown}
use Rattle.zo_plan.specs.Laws.{HasShownTaken, ExpiredLaw}
use Rattle.zo_plan.specs.Runs.{early, Running, judged, seen_after, step_at}

module _ (run : Running) (now addr word seen : ℕ) where
  no_end : (left : List Due) → step_at GoesOn seen left ≡ step.Expired addr word → ⊥
  no_end [] e = cc
  no_end (d ∷ left) e = cc

  taken : (held : Held) (answer : Answer) → run.asked ≡ Some (early (Look held)) → ((kind : FaultKind) → answer ≡ Fault kind → ⊥) → (left : List Due) (shown : Bool) → is_shown held answer now ≡ shown
      → step_at (cond shown GoesOn (Taken held.lease (word_in answer))) seen left ≡ step.Expired addr word → HasShownTaken run answer now addr word
  taken held answer asked answered left true shown e = absurd (no_end left e)
  taken held answer asked answered left false shown e = record { held = held; asked = asked; lease = lease_of e; word_is = word_of e; taken = shown; answered = answered }
    where
      lease_of : step.Expired held.lease (word_in answer) ≡ step.Expired addr word → addr ≡ held.lease
      lease_of e = cc

      word_of : step.Expired held.lease (word_in answer) ≡ step.Expired addr word → word ≡ word_in answer
      word_of e = cc

  ended_late : (deed : Deed) (answer : Answer) (left : List Due) → step_at (judged_late deed answer now) seen left ≡ step.Expired addr word → ⊥
  ended_late (Look held) answer left e = by (is_shown held answer now) e
    where
      by : (shown : Bool) → step_at (cond shown GoesOn Ends) seen left ≡ step.Expired addr word → ⊥
      by true e = no_end left e
      by false e = cc
  ended_late (Store a w m) answer left e = no_end left e
  ended_late (Count a) answer left e = no_end left e
  ended_late (Raise a) answer left e = no_end left e
  ended_late (Flush a) answer left e = no_end left e
  ended_late Fence answer left e = no_end left e

  refused : (deed : Deed) (kind : FaultKind) (left : List Due) → step_at (judged_early deed (Fault kind) now) seen left ≡ step.Expired addr word → ⊥
  refused (Store a w m) kind left e = cc
  refused (Count a) kind left e = cc
  refused (Raise a) kind left e = cc
  refused (Look held) kind left e = cc
  refused (Flush a) kind left e = cc
  refused Fence kind left e = no_end left e

  no_fault : (w : ℕ) (kind : FaultKind) → Word w ≡ Fault kind → ⊥
  no_fault w kind e = cc

  ended_early : (deed : Deed) (answer : Answer) → run.asked ≡ Some (early deed) → (left : List Due) → step_at (judged_early deed answer now) seen left ≡ step.Expired addr word → HasShownTaken run answer now addr word
  ended_early deed (Fault kind) asked left e = absurd (refused deed kind left e)
  ended_early (Look held) (Word w) asked left e = taken held (Word w) asked (λ kind e. cc) left (is_shown held (Word w) now) refl e
  ended_early (Look held) Done asked left e = taken held Done asked (λ kind e. cc) left false refl e
  ended_early (Look held) (Kern k) asked left e = taken held (Kern k) asked (λ kind e. cc) left false refl e
  ended_early (Store a w m) (Word v) asked left e = absurd (no_end left e)
  ended_early (Store a w m) Done asked left e = absurd (no_end left e)
  ended_early (Store a w m) (Kern k) asked left e = absurd (no_end left e)
  ended_early (Count a) (Word v) asked left e = absurd (no_end left e)
  ended_early (Count a) Done asked left e = absurd (no_end left e)
  ended_early (Count a) (Kern k) asked left e = absurd (no_end left e)
  ended_early (Raise a) (Word v) asked left e = absurd (no_end left e)
  ended_early (Raise a) Done asked left e = absurd (no_end left e)
  ended_early (Raise a) (Kern k) asked left e = absurd (no_end left e)
  ended_early (Flush a) (Word v) asked left e = absurd (no_end left e)
  ended_early (Flush a) Done asked left e = absurd (no_end left e)
  ended_early (Flush a) (Kern k) asked left e = absurd (no_end left e)
  ended_early Fence (Word v) asked left e = absurd (no_end left e)
  ended_early Fence Done asked left e = absurd (no_end left e)
  ended_early Fence (Kern k) asked left e = absurd (no_end left e)

  ended_due : (d : Due) (answer : Answer) → run.asked ≡ Some d → (left : List Due) (late : Bool) → d.late ≡ late
      → step_at (cond late (judged_late d.deed answer now) (judged_early d.deed answer now)) seen left ≡ step.Expired addr word → HasShownTaken run answer now addr word
  ended_due d answer asked left true is e = absurd (ended_late d.deed answer left e)
  ended_due d answer asked left false is e = ended_early d.deed answer (asked ∙ (λ i. Some (record { deed = d.deed; late = is i }))) left e

  pub ended : (asked : Option Due) (answer : Answer) → run.asked ≡ asked → (left : List Due) → step_at (judged asked answer now) seen left ≡ step.Expired addr word → HasShownTaken run answer now addr word
  ended None answer asked left e = absurd (no_end left e)
  ended (Some d) answer asked left e = ended_due d answer asked left d.late refl e

  -- a look before the commit that was not refused and has not shown the call's own word ends the run
  pub looked : (held : Held) (answer : Answer) (left : List Due) → ((kind : FaultKind) → answer ≡ Fault kind → ⊥) → is_shown held answer now ≡ false
      → step_at (judged_early (Look held) answer now) seen left ≡ step.Expired held.lease (word_in answer)
  looked held (Fault kind) left answered taken = absurd (answered kind refl)
  looked held (Word w) left answered taken = ap (λ (shown : Bool). step_at (cond shown GoesOn (Taken held.lease w)) seen left) taken
  looked held Done left answered taken = refl
  looked held (Kern k) left answered taken = refl

pub expired : ExpiredLaw
expired run answer now addr word = (
  ended run now addr word (seen_after run.asked answer run.seen) run.asked answer refl run.left,
  λ shown.
      ap (λ (asked : Option Due). step_at (judged asked answer now) (seen_after run.asked answer run.seen) run.left) shown.asked
      ∙ looked run now addr word (seen_after run.asked answer run.seen) shown.held answer run.left shown.answered shown.taken
      ∙ sym (λ i. step.Expired (shown.lease i) (shown.word_is i)),
)
