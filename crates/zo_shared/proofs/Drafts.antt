-- Stores into drawn pages, and into the leases of pools.
use Rattle.std.proofs.Common.{◌≡◌, ◌≢◌, inl, inr, ℕ, ◌/◌, ◌≤◌, sym, ap, ◌∙◌, arith}
use Rattle.zo_layout.specs.Layout.{page_at, control_intent, pool_lease, pool_head}
use Rattle.zo_model.specs.CofferWords.{Nothing, Control}
use Rattle.zo_units.specs.UnitLaws.{Useless, ControlWord}
use Rattle.zo_units.proofs.Telling.{nothing_control}
use Rattle.zo_units.proofs.Steps.{store_spares}
use Rattle.zo_shared.specs.Shared.{Shared, IsSound}
use Rattle.zo_shared.specs.Deeds.{Draft, Pool, MayDo, does}
use Rattle.zo_shared.proofs.Frames.{Done}
use Rattle.zo_shared.proofs.Changes.{belongs_some, belongs_not_control, use_control, after_store, store_rises, store_sound, store_apart, store_pools, store_drawn, quiet_done}

pub draft_done : (g : Shared) (thread now addr word : ℕ) → IsSound g → MayDo thread now (Draft addr word) g → Done thread g (does thread now (Draft addr word) g)
draft_done g thread now addr word s may =
    quiet_done g thread now (after_store g s addr word) s may.later (store_rises g s addr word) (store_sound g s addr word (Useless useless))
    (λ names dir. store_apart g s addr word names dir (λ belongs. belongs_some (g.use_of (addr / 4096)) names belongs useless))
    (store_pools g s addr word (λ is. nothing_control (sym useless ∙ is))) (store_drawn g s addr word thread (inr may.may))
  where
    useless : g.use_of (addr / 4096) ≡ Nothing
    useless = (s.drawn (addr / 4096) thread may.may).useless

pub pool_done : (g : Shared) (thread now pool word : ℕ) → IsSound g → MayDo thread now (Pool pool word) g → Done thread g (does thread now (Pool pool word) g)
pool_done g thread now pool word s may =
    quiet_done g thread now (after_store g s addr word) s may.later (store_rises g s addr word) (store_sound g s addr word (ControlWord page not_intent))
    (λ names dir. store_apart g s addr word names dir (λ belongs. belongs_not_control (g.use_of (addr / 4096)) names belongs control))
    (λ other few. (store_spares addr word g.memory (pool_head (page_at g.coffer.control) other) (λ same. omega (arith, same, few, low))).present ∙ s.pools other few)
    (store_drawn g s addr word thread (inl (λ none. nothing_control (sym none ∙ control))))
  where
    low : pool ≤ 7
    low = may.may

    addr : ℕ
    addr = pool_lease (page_at g.coffer.control) pool

    page : addr / 4096 ≡ g.coffer.control
    page = omega (arith, low)

    control : g.use_of (addr / 4096) ≡ Control
    control = ap g.use_of page ∙ use_control g s

    not_intent : addr / 8 ≢ control_intent (page_at g.coffer.control) / 8
    not_intent same = omega (arith, same)
