-- A state along a list of entries, and what holds of each entry at the state that those before it leave.
use Rattle.std.specs.Prelude.{List, [], ◌∷◌}

-- the state after the entries
abbrev pub state_after : {S E : Type 0} → (S → E → S) → S → List E → S
state_after next s [] = s
state_after next s (e ∷ es) = state_after next (next s e) es

-- each entry may come at the state that those before it leave
abbrev pub Each : {S E : Type 0} → (S → E → S) → (S → E → Type 0) → S → List E → Type 0
Each next May s [] = Unit {0}
Each next May s (e ∷ es) = May s e × Each next May (next s e) es
