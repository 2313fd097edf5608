-- Looks, flushes and fences.
use Rattle.std.proofs.Common.{ℕ, ◌∙◌}
use Rattle.zo_units.specs.Memory.{Flush as FlushEvent, Fence as FenceEvent, flushed_in, fenced_in}
use Rattle.zo_units.proofs.Places.{rises_none, rises_after}
use Rattle.zo_units.proofs.Steps.{flushes, flush_spares, fence_spares, same_spares}
use Rattle.zo_shared.specs.Shared.{Shared, IsSound}
use Rattle.zo_shared.specs.Deeds.{Look, Flush, Fence, MayDo, does}
use Rattle.zo_shared.proofs.Frames.{Done, spared_by}
use Rattle.zo_shared.proofs.Changes.{quiet_done}

pub look_done : (g : Shared) (thread now : ℕ) → IsSound g → MayDo thread now Look g → Done thread g (does thread now Look g)
look_done g thread now s may =
    quiet_done g thread now g.memory s may.later (rises_none g.memory) s.sound (λ names dir. spared_by g s names dir g.memory (λ a inside is. same_spares g.memory a)) s.pools
    (λ a other differs is. same_spares g.memory a)

pub flush_done : (g : Shared) (thread now addr : ℕ) → IsSound g → MayDo thread now (Flush addr) g → Done thread g (does thread now (Flush addr) g)
flush_done g thread now addr s may =
    quiet_done g thread now (flushed_in thread addr g.memory) s may.later (rises_after (FlushEvent thread addr) g.memory s.sound.tidy)
    (flushes.flush g.memory g.coffer g.tree g.page_of g.use_of g.lasts thread addr s.sound)
    (λ names dir. spared_by g s names dir (flushed_in thread addr g.memory) (λ a inside is. flush_spares thread addr g.memory a))
    (λ pool few. (flush_spares thread addr g.memory _).present ∙ s.pools pool few) (λ a other differs is. flush_spares thread addr g.memory a)

pub fence_done : (g : Shared) (thread now : ℕ) → IsSound g → MayDo thread now Fence g → Done thread g (does thread now Fence g)
fence_done g thread now s may =
    quiet_done g thread now (fenced_in thread g.memory) s may.later (rises_after (FenceEvent thread) g.memory s.sound.tidy)
    (flushes.fence g.memory g.coffer g.tree g.page_of g.use_of g.lasts thread s.sound)
    (λ names dir. spared_by g s names dir (fenced_in thread g.memory) (λ a inside is. fence_spares thread g.memory a))
    s.pools (λ a other differs is. fence_spares thread g.memory a)
