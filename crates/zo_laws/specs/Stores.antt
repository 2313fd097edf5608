-- The words after stores, by their addresses. A store goes to the whole word of its address.
use Rattle.std.specs.Prelude.{ℕ, List, [], ◌∷◌}
use Rattle.zo_model.specs.Steps.{put}

-- after these stores, in order
abbrev pub after_stores : (ℕ → ℕ) → List (ℕ × ℕ) → ℕ → ℕ
after_stores at [] = at
after_stores at (pair ∷ pairs) = after_stores (put at pair.0 pair.1) pairs
