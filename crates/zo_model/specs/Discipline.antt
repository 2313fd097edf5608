-- What our calls keep beyond what is legal: whom they look for and map, when they ask for pages, and what they do after
-- their commit. A trace that others made is judged by legality alone.
use Rattle.std.specs.Prelude.{◌≡◌, ℕ, ◌≤◌, List, Bool, true, false, Some, None}
use Rattle.tr_types.specs.declared.action.Action.{Action}
use Rattle.tr_types.specs.declared.action.Action.TheVariants.{Store, Kernel}
use Rattle.tr_types.specs.declared.kernel_call.Kcall.{Kcall}
use Rattle.tr_types.specs.declared.kernel_call.Kcall.TheVariants.{Find, Map, Unmap, Enlarge}
use Rattle.zo_model.specs.Commands.{sought_path, right_needed}
use Rattle.zo_model.specs.Coffers.{Coffer}
use Rattle.zo_model.specs.Answers.{Answered, Changes}
use Rattle.zo_model.specs.Legal.{pages_needed}
use Rattle.zo_model.specs.Seats.{Seat, NotAsked, LastFind}

-- A call asks for pages once, no more than its command may need, after its pool showed none, and only in a change that
-- would succeed.
pub record MayEnlarge (coffers : List Coffer) (seat : Seat) (count : ℕ) : Type 0 where
  pub drained : seat.drained ≡ true
  pub once : seat.told ≡ NotAsked
  pub few : count ≤ pages_needed seat.command
  pub answered : Answered
  pub changes : Changes coffers seat.cred seat.command answered

-- A map is of the path that the call's last Find named, and not for the caller alone.
pub record MayMap (seat : Seat) (path : List ℕ) (right : ℕ) (exclusive : Bool) : Type 0 where
  pub consulted : path ≡ sought_path seat.command
  pub find : LastFind
  pub found : seat.found ≡ Some find
  pub named : find.path ≡ path
  pub right_is : right ≡ right_needed seat.command
  pub shared : exclusive ≡ false

-- before its commit a call looks for the coffer that its command consults, maps it, asks for pages, and ends its map
abbrev pub MayAsk : List Coffer → Seat → Kcall → Type 0
MayAsk coffers seat (Find path also) = (path ≡ sought_path seat.command) × (also ≡ None)
MayAsk coffers seat (Map path right exclusive) = MayMap seat path right.0 exclusive
MayAsk coffers seat (Unmap id) = Unit {0}
MayAsk coffers seat (Enlarge id count) = MayEnlarge coffers seat count
MayAsk coffers seat call = ⊥

-- after it, it asks the kernel for nothing but to end its map
abbrev pub MayEnd : Kcall → Type 0
MayEnd (Unmap id) = Unit {0}
MayEnd call = ⊥

abbrev pub MayAskAt : Bool → List Coffer → Seat → Kcall → Type 0
MayAskAt true coffers seat call = MayEnd call
MayAskAt false coffers seat call = MayAsk coffers seat call

-- the action keeps the discipline; `kernel_end` is the address behind the kernel's pages, in which no call stores
abbrev pub Keeps : ℕ → List Coffer → Seat → Action → Type 0
Keeps kernel_end coffers seat (Kernel call) = MayAskAt seat.committed coffers seat call
Keeps kernel_end coffers seat (Store addr word) = kernel_end ≤ addr
Keeps kernel_end coffers seat action = Unit {0}
