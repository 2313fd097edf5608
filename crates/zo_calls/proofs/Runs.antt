-- The stores of a plan's run are marked as stores.
use Rattle.std.proofs.Common.{◌≡◌, ℕ, List, [], ◌∷◌, ◌++◌, Bool, true, false, Option, Some, None, refl, inl, inr}
use Rattle.std.specs.Prelude.{if◌then◌else◌, ◌==◌, map, All}
use Rattle.std.specs.List.{AllByRecursion}
use Rattle.std.proofs.lemmas.List.Elements.{All-from_recursion, recursion_from_All}
use Rattle.tr_types.specs.declared.action.Answer.{Answer}
use Rattle.tr_types.specs.declared.entry.Mark.TheVariants as mark
use Rattle.zo_plan.specs.declared.deed.Deed.{Deed}
use Rattle.zo_plan.specs.declared.deed.Deed.TheVariants as deed
use Rattle.zo_plan.specs.declared.deed.Due.{Due}
use Rattle.zo_plan.specs.declared.deed.Verdict.{Verdict}
use Rattle.zo_plan.specs.declared.deed.Verdict.TheVariants as verdict
use Rattle.zo_plan.specs.declared.held.Held.{Held}
use Rattle.zo_plan.specs.declared.plan.Plan.{Plan}
use Rattle.zo_plan.specs.declared.plan.Put.{Put}
use Rattle.zo_plan.specs.declared.plan.Operand.{Operand}
use Rattle.zo_plan.specs.declared.plan.Operand.TheVariants.{Known, Drawn}
use Rattle.zo_plan.specs.declared.run.Step.{Step}
use Rattle.zo_plan.specs.declared.run.Step.TheVariants as step
use Rattle.zo_plan.specs.Deeds.{action_of, mark_of}
use Rattle.zo_plan.specs.Operands.{real}
use Rattle.zo_plan.specs.Runs.{Running, step_at, run_at, step_of, run_after, begun, judged, seen_after, dues_of, prepared, raises, notes, follows, looks, late_looks, looked_before, flush_between, line_of, from_settling, from_commit, from_notes, from_counters, from_prepares, early, store_of}
use Rattle.zo_calls.specs.declared.caller.Caller.{Caller}
use Rattle.zo_calls.specs.Acts.{MayAct}
use Rattle.zo_calls.specs.Stages.{IsMarked, AreMarked}

abbrev Marked : Due → Type 0
Marked d = IsMarked d.deed

abbrev AllMarked : List Due → Type 0
AllMarked dues = AllByRecursion Marked dues

both : (xs ys : List Due) → AllMarked xs → AllMarked ys → AllMarked (xs ++ ys)
both [] ys kx ky = ky
both (x ∷ xs) ys (k, kx) ky = (k, both xs ys kx ky)

looks_are : (leases : List Held) → AllMarked (looks leases)
looks_are [] = tt
looks_are (held ∷ leases) = (tt, looks_are leases)

late_looks_are : (leases : List Held) → AllMarked (late_looks leases)
late_looks_are [] = tt
late_looks_are (held ∷ leases) = (tt, late_looks_are leases)

flush_if : (d : Due) (b : Bool) → Marked d → AllMarked (if b then [] else d ∷ [])
flush_if d true k = tt
flush_if d false k = (k, tt)

flush_are : (drawn : List ℕ) (put : Put) (puts : List Put) → AllMarked (flush_between drawn put puts)
flush_are drawn put [] = (tt, tt)
flush_are drawn put (next ∷ puts) = flush_if _ (line_of (real drawn next.at) == line_of (real drawn put.at)) tt

prepared_are : (drawn : List ℕ) (leases first : List Held) (puts : List Put) → AllMarked (prepared drawn leases first puts)
prepared_are drawn leases first [] = tt
prepared_are drawn leases first (put ∷ puts) =
    both (looks (looked_before put.at first) ++ early (store_of drawn mark.Plain put) ∷ flush_between drawn put puts) (prepared drawn leases leases puts)
    (both (looks (looked_before put.at first)) (early (store_of drawn mark.Plain put) ∷ flush_between drawn put puts) (looks_are (looked_before put.at first)) (tt, flush_are drawn put puts))
    (prepared_are drawn leases leases puts)

raises_are : (leases left : List Held) → AllMarked (raises leases left)
raises_are leases [] = tt
raises_are leases (held ∷ others) = (tt, both (looks leases) _ (looks_are leases) (tt, raises_are leases others))

notes_are : (drawn : List ℕ) (plan : Plan) (leases first left : List Held) → AllMarked (notes drawn plan leases first left)
notes_are drawn plan leases first [] = tt
notes_are drawn plan leases first (held ∷ others) = both (looks first) _ (looks_are first) (tt, notes_are drawn plan leases leases others)

follows_are : (drawn : List ℕ) (leases first : List Held) (puts : List Put) → AllMarked (follows drawn leases first puts)
follows_are drawn leases first [] = tt
follows_are drawn leases first (put ∷ puts) = both (late_looks first) _ (late_looks_are first) (tt, follows_are drawn leases leases puts)

dues_are : (drawn : List ℕ) (leases : List Held) (plan : Plan) → AllMarked (dues_of drawn leases plan)
dues_are drawn leases plan =
    both (prepared drawn leases leases plan.prepares.items) _ (prepared_are drawn leases leases plan.prepares.items) (
      tt,
      both (raises leases leases) _ (raises_are leases leases)
          (both (notes drawn plan leases leases leases) _ (notes_are drawn plan leases leases leases)
          (both (looks leases) _ (looks_are leases) (tt, (tt, (tt, follows_are drawn leases leases plan.after.items))))),
    )

pub begun_marked : (drawn : List ℕ) (leases : List Held) (plan : Plan) → AreMarked (begun drawn leases plan)
begun_marked drawn leases plan = All-from_recursion Marked (dues_of drawn leases plan) (dues_are drawn leases plan)

left_marked : (v : Verdict) (seen : ℕ) (cut : Bool) (left : List Due) → AllMarked left → AllMarked (run_at v seen cut left).left
left_marked verdict.GoesOn seen cut [] k = tt
left_marked verdict.GoesOn seen cut (d ∷ left) (k, ks) = ks
left_marked (verdict.Taken addr word) seen cut left k = tt
left_marked (verdict.Refused addr) seen cut left k = tt
left_marked verdict.Ends seen cut left k = tt

pub run_keeps : (run : Running) (answer : Answer) (now : ℕ) → AreMarked run → AreMarked (run_after run answer now)
run_keeps run answer now k =
    All-from_recursion Marked (run_after run answer now).left
    (left_marked (judged run.asked answer now) (seen_after run.asked answer run.seen) run.cut run.left (recursion_from_All Marked run.left k))

-- a step of a run
abbrev pub StepMay : Caller → Step → Type 0
StepMay caller (step.Act action mark) = MayAct caller action mark
StepMay caller s = Unit {0}

deed_may : (caller : Caller) (seen : ℕ) (d : Deed) → IsMarked d → MayAct caller (action_of seen d) (mark_of d)
deed_may caller seen (deed.Store addr word mark) k = k
deed_may caller seen (deed.Count addr) k = tt
deed_may caller seen (deed.Raise addr) k = tt
deed_may caller seen (deed.Look held) k = tt
deed_may caller seen (deed.Flush addr) k = refl
deed_may caller seen deed.Fence k = refl

step_may : (caller : Caller) (v : Verdict) (seen : ℕ) (left : List Due) → AllMarked left → StepMay caller (step_at v seen left)
step_may caller verdict.GoesOn seen [] k = tt
step_may caller verdict.GoesOn seen (d ∷ left) (k, ks) = deed_may caller seen d.deed k
step_may caller (verdict.Taken addr word) seen left k = tt
step_may caller (verdict.Refused addr) seen left k = tt
step_may caller verdict.Ends seen left k = tt

pub run_may : (caller : Caller) (run : Running) (answer : Answer) (now : ℕ) → AreMarked run → StepMay caller (step_of run answer now)
run_may caller run answer now k =
    step_may caller (judged run.asked answer now) (seen_after run.asked answer run.seen) run.left (recursion_from_All Marked run.left k)
