-- A link and a guard.
use Rattle.std.specs.Prelude.{ℕ}
use Rattle.kern_plans.specs.declared.linking.Link.{Link}
use Rattle.kern_plans.specs.declared.linking.Guard.{Guard}
use Rattle.kern_plans.specs.declared.linking.Linking.{Linking}

-- as a row takes them

abbrev pub link_of : Link → ℕ × ℕ × ℕ
link_of link = (link.addr, link.old, link.new)

abbrev pub guard_of : Guard → ℕ × ℕ
guard_of guard = (guard.addr, guard.word)

-- and as a call gives them

abbrev pub given_guard : (ℕ × ℕ) → Guard
given_guard guard = record { addr = guard.0; word = guard.1 }

abbrev pub linking_of : (ℕ × ℕ × ℕ) → (ℕ × ℕ) → Linking
linking_of link guard = record { link = record { addr = link.0; old = link.1; new = link.2 }; guard = given_guard guard }
