-- What the calls that change the coffer table answer: pairs of an address and the word that goes there. `at` gives the word
-- that the kernel reads at an address.
use Rattle.std.specs.Prelude.{◌≡◌, ℕ, List, Bool, true, false, Some, None, is_some, Result, Ok, Err, ⊤}
use Rattle.kern_model.specs.KernelTables.{Coffer, coffers_in}
use Rattle.kern_model.specs.PathMap.{coffer_at_path, coffer_with, free_id, added_pairs}
use Rattle.kern_roots.specs.declared.types.Root.{Root}
use Rattle.kern_roots.specs.declared.types.RootsFault.{RootsFault}
use Rattle.kern_roots.specs.declared.types.RootsFault.TheVariants.{Taken, TooMany, NoCoffer, NoMemory}
use Rattle.kern_roots.specs.Reading.{state_word}

-- a coffer has just this path
abbrev pub is_taken : ℕ → (ℕ → ℕ) → List ℕ → Bool
is_taken pages at path = is_some (coffer_at_path (coffers_in pages at) path)

-- a coffer has the number
abbrev pub is_used : ℕ → (ℕ → ℕ) → ℕ → Bool
is_used pages at id = is_some (coffer_with (coffers_in pages at) id)

-- the coffer of a number and a path
abbrev pub new_coffer : ℕ → List ℕ → Root → Coffer
new_coffer id path given = record {
  id = id;
  path = path;
  perm = given.perm;
  state = state_word given.state;
  kind = given.kind;
  control = given.control;
  root = given.root;
}

-- What is answered where a coffer is to come: its number, the least that no coffer has, and the pairs. Taken comes before
-- TooMany.
abbrev pub Adds : ℕ → (ℕ → ℕ) → List ℕ → Root → Result (ℕ × List (ℕ × ℕ)) RootsFault → Type 0
Adds pages at path given (Ok made) =
    (is_taken pages at path ≡ false) × (free_id pages at ≡ Some made.0) × (made.1 ≡ added_pairs pages at (new_coffer made.0 path given))
Adds pages at path given (Err Taken) = is_taken pages at path ≡ true
Adds pages at path given (Err TooMany) = (is_taken pages at path ≡ false) × (free_id pages at ≡ None)
Adds pages at path given (Err NoCoffer) = ⊥
Adds pages at path given (Err NoMemory) = ⊤

-- what is answered where the coffer of a number is to change by these pairs
abbrev pub Changes : ℕ → (ℕ → ℕ) → ℕ → List (ℕ × ℕ) → Result (List (ℕ × ℕ)) RootsFault → Type 0
Changes pages at id pairs (Ok made) = (is_used pages at id ≡ true) × (made ≡ pairs)
Changes pages at id pairs (Err NoCoffer) = is_used pages at id ≡ false
Changes pages at id pairs (Err NoMemory) = ⊤
Changes pages at id pairs (Err other) = ⊥
