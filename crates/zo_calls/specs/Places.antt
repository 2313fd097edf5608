-- Where the leases of a call stand, and what stays of it.
use Rattle.std.specs.Prelude.{◌≡◌, ◌⊎◌, ℕ, ◌%◌, List, drop}
use Rattle.zo_layout.specs.Layout as layout
use Rattle.tr_types.specs.declared.command.Command.{Command}
use Rattle.tr_types.specs.declared.command.Command.TheVariants.{Create, Stat}
use Rattle.zo_calls.specs.declared.caller.Caller.{Caller}
use Rattle.zo_calls.specs.declared.op.OpRun.{OpRun}

-- the address of the coffer's control page, and of its root directory
abbrev pub control_of : Caller → ℕ
control_of caller = layout.page_at caller.mapped.control

abbrev pub root_of : Caller → ℕ
root_of caller = layout.page_at caller.mapped.root

abbrev pub dir_lease_of : Caller → ℕ
dir_lease_of caller = layout.dir_lease (root_of caller)

-- a thread draws from the pool of its number's last digit, in base 8
abbrev pub pool_lease_of : Caller → ℕ
pool_lease_of caller = layout.pool_lease (control_of caller) (caller.thread % 8)

abbrev pub pool_head_of : Caller → ℕ
pool_head_of caller = layout.pool_head (control_of caller) (caller.thread % 8)

-- a call takes these leases and no others
abbrev pub IsLeaseOf : Caller → ℕ → Type 0
IsLeaseOf caller addr = (addr ≡ dir_lease_of caller) ⊎ (addr ≡ pool_lease_of caller)

abbrev pub path_of : Command → List ℕ
path_of (Create path mode) = path
path_of (Stat path) = path

-- the name that a command's path has in the root directory; none for `/`
abbrev pub name_of : Command → List ℕ
name_of command = drop 1 (path_of command)

-- 2 is Write, 1 is Read
abbrev pub right_of : Command → ℕ
right_of (Create path mode) = 2
right_of (Stat path) = 1

-- the thread and its coffer stay; how many pages the coffer has may be told anew
pub record IsSameCaller (old new : Caller) : Type 0 where
  pub thread : new.thread ≡ old.thread
  pub id : new.mapped.id ≡ old.mapped.id
  pub control : new.mapped.control ≡ old.mapped.control
  pub root : new.mapped.root ≡ old.mapped.root
  pub path : new.mapped.path_len ≡ old.mapped.path_len

pub record IsSameCall (old new : OpRun) : Type 0 where
  pub caller : IsSameCaller old.caller new.caller
  pub command : new.command ≡ old.command

-- the same, and the coffer was not mapped anew
pub record IsUnmoved (old new : OpRun) : Type 0 where
  pub caller : new.caller ≡ old.caller
  pub command : new.command ≡ old.command
