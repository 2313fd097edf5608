-- What is left to give at each stage of a run under leases.
use Rattle.std.specs.Prelude.{◌≡◌, ℕ, List, [], ◌∷◌, ◌++◌, drop, if◌then◌else◌, ◌==◌}
use Rattle.zo_plan.specs.declared.course.Course.{Course}
use Rattle.zo_plan.specs.declared.course.Given.{Given}
use Rattle.zo_plan.specs.declared.course.Stage.{Stage}
use Rattle.zo_plan.specs.declared.course.Stage.TheVariants.{Preparing, Flushing, Counting, Raising, Noting, Committing, Settling, Settled, Following, Over}
use Rattle.zo_plan.specs.declared.deed.Deed.{Deed}
use Rattle.zo_plan.specs.declared.deed.Deed.TheVariants.{Raise, Flush, Fence}
use Rattle.zo_plan.specs.declared.deed.Due.{Due}
use Rattle.zo_plan.specs.declared.plan.Put.{Put}
use Rattle.zo_lease.specs.Words.{counter_word}
use Rattle.zo_plan.specs.Operands.{real}
use Rattle.zo_plan.specs.Runs.{early, late, looks, line_of, raises, follows, from_settling, from_commit, from_notes, from_counters, from_prepares}

abbrev pub left_at : Course → Stage → List Due
left_at c (Preparing given looked) = from_prepares c.drawn.items c.leases.items c.plan (drop looked c.leases.items) (drop given c.plan.prepares.items)
left_at c (Flushing addr given) = early (Flush addr) ∷ from_prepares c.drawn.items c.leases.items c.plan c.leases.items (drop given c.plan.prepares.items)
left_at c (Counting raised) = from_counters c.drawn.items c.leases.items c.plan (drop raised c.leases.items)
left_at c (Raising held raised looked) =
    (looks (drop looked c.leases.items) ++ early (Raise (counter_word held.lease)) ∷ raises c.leases.items (drop raised c.leases.items))
    ++ from_notes c.drawn.items c.leases.items c.plan c.leases.items c.leases.items
left_at c (Noting noted looked) = from_notes c.drawn.items c.leases.items c.plan (drop looked c.leases.items) (drop noted c.leases.items)
left_at c (Committing looked) = from_commit c.drawn.items c.leases.items c.plan (drop looked c.leases.items)
left_at c Settling = from_settling c.drawn.items c.leases.items c.plan
left_at c Settled = late Fence ∷ follows c.drawn.items c.leases.items c.leases.items c.plan.after.items
left_at c (Following given looked) = follows c.drawn.items c.leases.items (drop looked c.leases.items) (drop given c.plan.after.items)
left_at c Over = []

-- this is due next, and the stage behind it has the rest
abbrev pub IsNext : Course → Stage → Given → Type 0
IsNext c stage given = left_at c stage ≡ given.due ∷ left_at c given.next

abbrev pub given_early : Deed → Stage → Given
given_early deed next = record { due = early deed; next = next }

abbrev pub given_late : Deed → Stage → Given
given_late deed next = record { due = late deed; next = next }

-- behind a store that prepares the change, where the stores from `given` on are left
abbrev pub behind_at : Put → List ℕ → ℕ → List Put → Stage
behind_at put drawn given [] = Flushing (real drawn put.at) given
behind_at put drawn given (next ∷ puts) = if line_of (real drawn next.at) == line_of (real drawn put.at) then Preparing given 0 else Flushing (real drawn put.at) given

abbrev pub behind : Course → Put → ℕ → Stage
behind c put given = behind_at put c.drawn.items given (drop given c.plan.prepares.items)
