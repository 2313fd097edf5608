-- How many actions a run has at most.
use Rattle.std.proofs.Common.{◌≡◌, ℕ, ◌+◌, ◌*◌, ◌≤◌, List, [], ◌∷◌, ◌++◌, length, filter, Bool, true, false, not, cond, ◌==◌, Some, arith}
use Rattle.std.proofs.lemmas.List.{length-append, length-map}
use Rattle.tr_types.specs.declared.action.Answer.{Answer}
use Rattle.tr_types.specs.declared.entry.Mark.TheVariants as mark
use Rattle.zo_plan.specs.declared.deed.Deed.TheVariants.{Count, Raise, Look, Flush, Fence}
use Rattle.zo_plan.specs.declared.deed.Due.{Due}
use Rattle.zo_plan.specs.declared.deed.Verdict.{Verdict}
use Rattle.zo_plan.specs.declared.deed.Verdict.TheVariants.{GoesOn, Taken, Refused, Ends}
use Rattle.zo_plan.specs.declared.held.Held.{Held}
use Rattle.zo_plan.specs.declared.plan.Operand.{Operand}
use Rattle.zo_plan.specs.declared.plan.Operand.TheVariants.{Known, Drawn}
use Rattle.zo_plan.specs.declared.plan.Plan.{Plan}
use Rattle.zo_plan.specs.declared.plan.Put.{Put}
use Rattle.zo_plan.specs.Deeds.{counted}
use Rattle.zo_lease.specs.Words.{counter_word}
use Rattle.zo_plan.specs.Laws.{made_from, is_drawn, drawn_stores, other_stores, CountLaw}
use Rattle.zo_plan.specs.Operands.{real}
use Rattle.zo_plan.specs.Runs.{early, late, looks, late_looks, looked_before, store_of, note_beside, line_of, flush_between, prepared, raises, notes, follows, from_settling, from_commit, from_notes, from_counters, dues_of, judged, step_at, run_at}

-- each action takes one off what is left
made_len : (v : Verdict) (seen : ℕ) (cut : Bool) (left : List Due) (replies : List (Answer × ℕ)) → length (made_from (step_at v seen left) (run_at v seen cut left) replies) ≤ length left
made_len GoesOn seen cut [] replies = omega arith
made_len GoesOn seen cut (d ∷ left) [] = omega arith
made_len GoesOn seen cut (d ∷ left) (reply ∷ replies) =
    let rest = made_len (judged (Some d) reply.0 reply.1) (counted d.deed reply.0 seen) cut left replies in
    omega (arith, rest)
made_len (Taken addr word) seen cut left replies = omega arith
made_len (Refused addr) seen cut left replies = omega arith
made_len Ends seen cut left replies = omega arith

len_looks : (leases : List Held) → length (looks leases) ≡ length leases
len_looks leases = length-map leases (λ (held : Held). early (Look held))

len_late_looks : (leases : List Held) → length (late_looks leases) ≡ length leases
len_late_looks leases = length-map leases (λ (held : Held). late (Look held))

len_flush : (drawn : List ℕ) (put : Put) (puts : List Put) → length (flush_between drawn put puts) ≤ 1
len_flush drawn put [] = omega arith
len_flush drawn put (next ∷ puts) = by (line_of (real drawn next.at) == line_of (real drawn put.at))
  where
    by : (same : Bool) → length (cond same [] (early (Flush (real drawn put.at)) ∷ [])) ≤ 1
    by true = omega arith
    by false = omega arith

len_prepared : (drawn : List ℕ) (leases first : List Held) → length leases ≤ 4 → length first ≤ 4 → (puts : List Put)
    → length (prepared drawn leases first puts) ≤ 2 * length (filter (λ (put : Put). is_drawn put.at) puts) + 10 * length (filter (λ (put : Put). not (is_drawn put.at)) puts)
len_prepared drawn leases first few few_first [] = omega arith
len_prepared drawn leases first few few_first (put ∷ puts) = by put.at (len_prepared drawn leases leases few few puts)
  where
    by : (at : Operand) → length (prepared drawn leases leases puts) ≤ 2 * length (filter (λ (put : Put). is_drawn put.at) puts) + 10 * length (filter (λ (put : Put). not (is_drawn put.at)) puts)
        → length ((looks (looked_before at first) ++ early (store_of drawn mark.Plain put) ∷ flush_between drawn put puts) ++ prepared drawn leases leases puts)
        ≤ 2 * length (cond (is_drawn at) (put ∷ filter (λ (put : Put). is_drawn put.at) puts) (filter (λ (put : Put). is_drawn put.at) puts))
        + 10 * length (cond (not (is_drawn at)) (put ∷ filter (λ (put : Put). not (is_drawn put.at)) puts) (filter (λ (put : Put). not (is_drawn put.at)) puts))
    by (Known addr) rest =
        let all = length-append (looks first ++ early (store_of drawn mark.Plain put) ∷ flush_between drawn put puts) (prepared drawn leases leases puts) in
        let front = length-append (looks first) (early (store_of drawn mark.Plain put) ∷ flush_between drawn put puts) in
        let looks_are = len_looks first in
        let flush = len_flush drawn put puts in
        omega (arith, all, front, looks_are, flush, rest, few_first)
    by (Drawn page byte) rest =
        let all = length-append (early (store_of drawn mark.Plain put) ∷ flush_between drawn put puts) (prepared drawn leases leases puts) in
        let flush = len_flush drawn put puts in
        omega (arith, all, flush, rest)

len_raises : (leases : List Held) → length leases ≤ 4 → (left : List Held) → length (raises leases left) ≤ 6 * length left
len_raises leases few [] = omega arith
len_raises leases few (held ∷ left) =
    let all = length-append (early (Count (counter_word held.lease)) ∷ looks leases) (early (Raise (counter_word held.lease)) ∷ raises leases left) in
    let looks_are = len_looks leases in
    let rest = len_raises leases few left in
    omega (arith, all, looks_are, rest, few)

len_notes : (drawn : List ℕ) (plan : Plan) (leases first : List Held) → length leases ≤ 4 → length first ≤ 4 → (left : List Held) → length (notes drawn plan leases first left) ≤ 5 * length left
len_notes drawn plan leases first few few_first [] = omega arith
len_notes drawn plan leases first few few_first (held ∷ left) =
    let all = length-append (looks first) (early (note_beside drawn plan held) ∷ notes drawn plan leases leases left) in
    let looks_are = len_looks first in
    let rest = len_notes drawn plan leases leases few few left in
    omega (arith, all, looks_are, rest, few_first)

len_follows : (drawn : List ℕ) (leases first : List Held) → length leases ≤ 4 → length first ≤ 4 → (puts : List Put) → length (follows drawn leases first puts) ≤ 5 * length puts
len_follows drawn leases first few few_first [] = omega arith
len_follows drawn leases first few few_first (put ∷ puts) =
    let all = length-append (late_looks first) (late (store_of drawn mark.Plain put) ∷ follows drawn leases leases puts) in
    let looks_are = len_late_looks first in
    let rest = len_follows drawn leases leases few few puts in
    omega (arith, all, looks_are, rest, few_first)

len_dues : (drawn : List ℕ) (leases : List Held) (plan : Plan) → length leases ≤ 4 → length (dues_of drawn leases plan) ≤ 2 * drawn_stores plan + 10 * other_stores plan + 64
len_dues drawn leases plan few =
    let one = length-append (prepared drawn leases leases plan.prepares.items) (early Fence ∷ from_counters drawn leases plan leases) in
    let two = length-append (raises leases leases) (from_notes drawn leases plan leases leases) in
    let three = length-append (notes drawn plan leases leases leases) (from_commit drawn leases plan leases) in
    let four = length-append (looks leases) (early (store_of drawn mark.Commit plan.commit) ∷ from_settling drawn leases plan) in
    let looks_are = len_looks leases in
    let a = len_prepared drawn leases leases few few plan.prepares.items in
    let b = len_raises leases few leases in
    let d = len_notes drawn plan leases leases few few leases in
    let e = len_follows drawn leases leases few few plan.after.items in
    omega (arith, one, two, three, four, looks_are, a, b, d, e, few)

pub count : CountLaw
count drawn leases plan replies few =
    let made = made_len GoesOn 0 false (dues_of drawn leases plan) replies in
    let dues = len_dues drawn leases plan few in
    omega (arith, made, dues)
