use Rattle.std.proofs.Common.{◌≡◌, ◌<◌, ℕ, List, Option, None, ap, ◌∙◌, subst, sym}
use Rattle.std.specs.Prelude.{slice_set}
use Rattle.tr_model.specs.Worlds.{put}
use Rattle.tr_core.specs.Places.{place_in}
use Rattle.tr_core.specs.declared.calls.Waiting.{Waiting}
use Rattle.tr_core.proofs.Puts.{place_set}
use Rattle.tr_core.proofs.calls.Calls.take.Goals as goal

pub returns-clause-left : goal.returns-clause-left
returns-clause-left c t =
    ap (λ (i : ℕ). place_in (slice_set c.self.inside.places.items i c.take.new.self) t) c.from.ensures
    ∙ ap (λ (x : Option Waiting). place_in (slice_set c.self.inside.places.items c.args.thread x) t) c.take.ensures.after
    ∙ place_set c.self.inside.places.items c.args.thread None (subst (λ n. c.args.thread < n) (sym c.self.invariant) c.requires) t
    ∙ ap (λ (p : List (Option Waiting)). put (place_in p) c.args.thread None t) c.self.view_is
