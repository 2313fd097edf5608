use Rattle.std.proofs.Common.{◌≡◌, ◌<◌, ℕ, List, Option, ap, ◌∙◌, subst, sym}
use Rattle.std.specs.Prelude.{slice_set}
use Rattle.tr_model.specs.Worlds.{put}
use Rattle.tr_core.specs.Places.{place_in}
use Rattle.tr_core.specs.declared.calls.Waiting.{Waiting}
use Rattle.tr_core.proofs.Puts.{place_set}
use Rattle.tr_core.proofs.calls.Calls.set.Goals as goal

pub returns : goal.returns
returns c t =
    ap (λ (i : ℕ). place_in (slice_set c.self.inside.places.items i c.args.waiting) t) c.from.ensures
    ∙ place_set c.self.inside.places.items c.args.thread c.args.waiting (subst (λ n. c.args.thread < n) (sym c.self.invariant) c.requires) t
    ∙ ap (λ (p : List (Option Waiting)). put (place_in p) c.args.thread c.args.waiting t) c.self.view_is
