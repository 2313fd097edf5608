-- An action that a scene allows: it loads or stores a word of the coffer, or asks for pages.
use Rattle.std.proofs.Common.{ℕ}
use Rattle.tr_types.specs.declared.action.Action.{Action}
use Rattle.tr_types.specs.declared.action.Action.TheVariants.{Load, Store, Cas, Flush, Fence, Pkru, Kernel}
use Rattle.tr_types.specs.declared.kernel_call.Kcall.TheVariants as kcall
use Rattle.zo_model.specs.Steps.{Scene, IsCofferWord, MayStore, IsReachable}

module _ (s : Scene) (P : Action → Type 0) (load : (addr : ℕ) → IsCofferWord s.coffer addr → P (Load addr))
    (store : (addr x : ℕ) → MayStore s.seat.command → IsCofferWord s.coffer addr → P (Store addr x))
    (asks : (id count : ℕ) → IsReachable s (Kernel (kcall.Enlarge id count)) → P (Kernel (kcall.Enlarge id count))) where
  pub by_reached : (action : Action) → IsReachable s action → P action
  by_reached (Load addr) reached = load addr reached
  by_reached (Store addr x) reached = store addr x reached.0 reached.1
  by_reached (Cas addr old new) reached = absurd reached
  by_reached (Flush addr) reached = absurd reached
  by_reached Fence reached = absurd reached
  by_reached (Pkru pkru) reached = absurd reached
  by_reached (Kernel (kcall.Find path also)) reached = absurd reached
  by_reached (Kernel (kcall.Map path right exclusive)) reached = absurd reached
  by_reached (Kernel (kcall.Unmap id)) reached = absurd reached
  by_reached (Kernel (kcall.New parent path kind mode link guard)) reached = absurd reached
  by_reached (Kernel (kcall.Delete id parent link guard)) reached = absurd reached
  by_reached (Kernel (kcall.Enlarge id count)) reached = asks id count reached
  by_reached (Kernel (kcall.Shrink id pages guard)) reached = absurd reached
  by_reached (Kernel (kcall.Split id path pages mode link guard)) reached = absurd reached
  by_reached (Kernel (kcall.Merge child parent pages link guard)) reached = absurd reached
  by_reached (Kernel (kcall.Mode id mode)) reached = absurd reached
  by_reached (Kernel (kcall.Recover id ready)) reached = absurd reached
