-- What is left of a run behind a store that prepares the change.
use Rattle.std.proofs.Common.{◌≡◌, ℕ, ◌+◌, List, [], ◌∷◌, ◌++◌, drop, Bool, true, false, cond, ◌==◌, refl, sym, ap, ◌∙◌}
use Rattle.tr_types.specs.declared.entry.Mark.TheVariants as mark
use Rattle.zo_plan.specs.declared.course.Course.{Course}
use Rattle.zo_plan.specs.declared.course.Stage.TheVariants.{Preparing, Flushing}
use Rattle.zo_plan.specs.declared.deed.Deed.TheVariants.{Flush, Fence}
use Rattle.zo_plan.specs.declared.deed.Due.{Due}
use Rattle.zo_plan.specs.declared.held.Held.{Held}
use Rattle.zo_plan.specs.declared.plan.Put.{Put}
use Rattle.zo_plan.specs.Operands.{real}
use Rattle.zo_plan.specs.Runs.{early, looks, looked_before, store_of, line_of, flush_between, prepared, from_counters, from_prepares}
use Rattle.zo_plan.specs.Stages.{left_at, behind_at, behind}

module _ (c : Course) (put : Put) where
  abbrev rest : List Due
  rest = early Fence ∷ from_counters c.drawn.items c.leases.items c.plan c.leases.items

  abbrev flush : Due
  flush = early (Flush (real c.drawn.items put.at))

  -- the flush of its line, where the next store doesn't go there, and the stores that are left
  flushed : (given : ℕ) (puts : List Put) → drop given c.plan.prepares.items ≡ puts
      → (flush_between c.drawn.items put puts ++ prepared c.drawn.items c.leases.items c.leases.items puts) ++ rest ≡ left_at c (behind_at put c.drawn.items given puts)
  flushed given [] e = ap (λ (ps : List Put). flush ∷ from_prepares c.drawn.items c.leases.items c.plan c.leases.items ps) (sym e)
  flushed given (next ∷ puts) e = by (line_of (real c.drawn.items next.at) == line_of (real c.drawn.items put.at))
    where
      by : (same : Bool) → (cond same [] (flush ∷ []) ++ prepared c.drawn.items c.leases.items c.leases.items (next ∷ puts)) ++ rest
          ≡ left_at c (cond same (Preparing given 0) (Flushing (real c.drawn.items put.at) given))
      by true = ap (λ (ps : List Put). from_prepares c.drawn.items c.leases.items c.plan c.leases.items ps) (sym e)
      by false = ap (λ (ps : List Put). flush ∷ from_prepares c.drawn.items c.leases.items c.plan c.leases.items ps) (sym e)

  pub store_next : (given looked : ℕ) → drop given c.plan.prepares.items ≡ put ∷ drop (given + 1) c.plan.prepares.items
      → looked_before put.at (drop looked c.leases.items) ≡ []
      → left_at c (Preparing given looked) ≡ early (store_of c.drawn.items mark.Plain put) ∷ left_at c (behind c put (given + 1))
  store_next given looked puts_are looked_all =
      ap (λ (ps : List Put). from_prepares c.drawn.items c.leases.items c.plan (drop looked c.leases.items) ps) puts_are
      ∙ ap (λ (hs : List Held). (looks hs ++ early (store_of c.drawn.items mark.Plain put) ∷ flush_between c.drawn.items put (drop (given + 1) c.plan.prepares.items) ++ prepared c.drawn.items c.leases.items c.leases.items (drop (given + 1) c.plan.prepares.items)) ++ rest) looked_all
      ∙ ap (λ (ds : List Due). early (store_of c.drawn.items mark.Plain put) ∷ ds) (flushed (given + 1) (drop (given + 1) c.plan.prepares.items) refl)
