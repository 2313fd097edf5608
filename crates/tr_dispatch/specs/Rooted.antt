-- A world in which the root coffer is the only one and isn't lost, and the scene in which a call of a thread works there.
use Rattle.std.specs.Prelude.{◌≡◌, ℕ, ◌<◌, List, [], ◌∷◌, length, Contains, false}
use Rattle.pm_words.specs.Word.{Word}
use Rattle.pm_words.specs.Memory.{HasPages}
use Rattle.zo_layout.specs.Layout.{kernel_pages, root_control}
use Rattle.kern_model.specs.KernelView.{value, pages_of, owner_of}
use Rattle.kern_model.specs.declared.limits.TheConstants.{KERNEL, ROOT_COFFER}
use Rattle.tr_types.specs.declared.kernel_call.Holder.{Holder}
use Rattle.zo_model.specs.Alone.{IsAlone}
use Rattle.zo_model.specs.CofferWords.{CofferAt, Rests}
use Rattle.zo_model.specs.Seats.{Seat}
use Rattle.zo_model.specs.Steps.{Scene}
use Rattle.tr_model.specs.RootCoffer.{IsRootAlone, root_coffer}
use Rattle.tr_model.specs.Worlds.{World, root_row, coffer_at, coffers_at}

-- What stands of the kernel's pages: the root coffer is the only one, each of them is the kernel's, so that no coffer has
-- one or is given one, and the root coffer's control page is its own.
pub record HasKernel (words : List Word) : Type 0 where
  pub alone : IsRootAlone words
  pub size : HasPages (length words)
  pub owned : (page : ℕ) → page < kernel_pages (pages_of words) → owner_of words page ≡ KERNEL
  pub control : owner_of words (root_control (pages_of words)) ≡ ROOT_COFFER

-- A thread's map of the root coffer, which is no obstacle to another thread's. It is the only coffer, so that each process
-- has it under its first key.
pub record IsRootRow (row : Holder) : Type 0 where
  pub id : row.id ≡ 1
  pub key : row.key ≡ 1
  pub shared : row.exclusive ≡ false

pub record IsRooted (w : World) : Type 0 where
  pub kernel : HasKernel w.base.machine.bus.words
  pub rows : (row : Holder) → Contains w.base.machine.bus.holders row → IsRootRow row
  pub table : w.base.table ≡ root_row ∷ []

-- the root coffer as the kernel has it in this world
abbrev pub root_at : World → CofferAt
root_at w = coffer_at w.base.machine.bus.words w.base.table root_row (root_coffer (pages_of w.base.machine.bus.words))

-- the root coffer as the call of a thread with this seat sees it
abbrev pub scene_of : World → ℕ → Seat → Scene
scene_of w thread seat = record {
  at = value w.base.machine.bus.words;
  id = 1;
  coffer = root_at w;
  coffers = coffers_at w;
  seat = seat;
  verdict = w.verdicts thread;
}

-- no call works in the root coffer: its words denote its tree, and none of its free entries or pools is out of order
pub record IsAtRest (w : World) : Type 0 where
  pub alone : IsAlone (coffers_at w) (root_at w) (w.trees 0)
  pub rests : Rests (value w.base.machine.bus.words) (root_at w) (w.trees 0)
