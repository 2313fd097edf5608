-- Which traces a core has: each entry may come at the world that those before it leave, is marked as its action is, is
-- legal and keeps our discipline, leaves words that denote the tree and one window at most for each thread, and changes
-- words only as the rights permit.
use Rattle.std.specs.Prelude.{◌≡◌, ℕ, ◌≤◌, List, Contains, length}
use Rattle.tr_types.specs.Fold.{Each, state_after}
use Rattle.tr_types.specs.declared.entry.Entry.{Entry}
use Rattle.tr_model.specs.Marks.{IsMarkedEntry}
use Rattle.tr_model.specs.OneWindow.{LeavesWindows, IsConfined}
use Rattle.tr_model.specs.Worlds.{World, Row, IsReady, world_of, stepped, MayCome, IsInCall, IsLegal, IsDisciplined, IsDenoted}
use Rattle.tr_core.specs.declared.limits.TheConstants.{TRACE_LIMIT}

-- the world after the entries of a trace, over the words of an image
abbrev pub world_after : List ℕ → List Entry → World
world_after opening trace = state_after stepped (world_of opening) trace

-- the entry is legal and keeps our discipline, and after it the words denote the tree
pub record IsRight (w : World) (e : Entry) : Type 0 where
  pub legal : IsLegal w e
  pub disciplined : IsDisciplined w e
  pub denoted : IsDenoted (stepped w e)

pub record IsTraceOf (opening : List ℕ) (trace : List Entry) : Type 0 where
  pub allowed : Each stepped MayCome (world_of opening) trace
  pub in_call : Each stepped IsInCall (world_of opening) trace
  pub marked : Each stepped (λ w e. IsMarkedEntry e) (world_of opening) trace
  pub right : Each stepped IsRight (world_of opening) trace
  pub windows : Each stepped LeavesWindows (world_of opening) trace
  pub confined : Each stepped IsConfined (world_of opening) trace
  -- no coffer is lost in it, since a stray store comes to a closed window
  pub unlost : (row : Row) → Contains (world_after opening trace).base.table row → row.standing ≡ IsReady
  pub within : length trace ≤ TRACE_LIMIT
