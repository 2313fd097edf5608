-- How pages stand in the tables of rights, beside whose they are.
use Rattle.std.specs.Prelude.{◌≡◌, ℕ, List, length, map, slice_index, Contains, Some, if◌then◌else◌, ◌==◌}
use Rattle.kern_model.specs.Rights.{process_of}
use Rattle.kern_model.specs.declared.limits.TheConstants.{KERNEL}
use Rattle.tr_types.specs.declared.permission.Cred.{Cred}

-- the coffer under which a page with this owner stands: none where it is the kernel's
abbrev pub coffer_or_none : ℕ → ℕ
coffer_or_none owner = if owner == KERNEL then 0 else owner

-- Each thread's process was started, and each page stands in the tables of rights under its coffer.
pub record StandInTables (processes : List (ℕ × Cred)) (threads : List (ℕ × ℕ)) (under owners : List ℕ) : Type 0 where
  pub started : (thread process : ℕ) → process_of threads thread ≡ Some process → Contains (map (λ p. p.0) processes) process
  pub count : length under ≡ length owners
  pub stands : (page : ℕ) → slice_index under page ≡ coffer_or_none (slice_index owners page)
