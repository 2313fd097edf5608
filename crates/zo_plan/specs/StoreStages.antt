-- What is left to give at each stage of a run.
use Rattle.std.specs.Prelude.{ℕ, List, [], map, drop, true, false}
use Rattle.zo_plan.specs.declared.plan.Plan.{Plan}
use Rattle.zo_plan.specs.declared.stores.Given.{Given}
use Rattle.zo_plan.specs.declared.stores.Stage.{Stage}
use Rattle.zo_plan.specs.declared.stores.Stage.TheVariants.{Preparing, Committed, Over}
use Rattle.zo_plan.specs.StoreRuns.{Due, due, due_from}

abbrev pub left_at : List ℕ → Plan → Stage → List Due
left_at drawn plan (Preparing given) = due_from drawn plan (drop given plan.prepares.items)
left_at drawn plan (Committed given) = map (due drawn false true) (drop given plan.after.items)
left_at drawn plan Over = []

abbrev pub given_due : List ℕ → Given → Due
given_due drawn given = due drawn given.commits given.late given.put
