-- What the calls that read the coffer table answer.
use Rattle.std.specs.Prelude.{◌≡◌, ℕ, List, length, Option, Some, None, if◌then◌else◌, ◌==◌}
use Rattle.tr_types.specs.Paths.{same_text}
use Rattle.kern_model.specs.KernelTables.{Coffer}
use Rattle.kern_roots.specs.declared.types.Found.{Found}
use Rattle.kern_roots.specs.declared.types.Root.{Root}
use Rattle.kern_roots.specs.declared.types.RootState.{RootState}
use Rattle.kern_roots.specs.declared.types.RootState.TheVariants.{Standing, Quarantined}
use Rattle.kern_roots.specs.declared.types.RootsFault.{RootsFault}
use Rattle.kern_roots.specs.declared.types.RootsFault.TheVariants.{NoCoffer, NoMemory}

-- the word by which an entry says a coffer's state
abbrev pub state_word : RootState → ℕ
state_word Standing = 1
state_word Quarantined = 2

-- the state that the word of a coffer's entry says; the word of a coffer that is there is 1 or 2
abbrev pub state_named : ℕ → RootState
state_named word = if word == 2 then Quarantined else Standing

-- a coffer as its entry is answered
abbrev pub root_of : Coffer → Root
root_of c = record { perm = c.perm; state = state_named c.state; kind = c.kind; control = c.control; root = c.root }

-- a coffer as it is answered to a path that lies in it
abbrev pub found_of : List ℕ → Coffer → Found
found_of path c = record { id = c.id; exact = same_text c.path path; path_len = length c.path }

-- why nothing is answered of a coffer: NoCoffer where there is none, and want of memory where there is
abbrev pub IsRefused : Option Coffer → RootsFault → Type 0
IsRefused None fault = fault ≡ NoCoffer
IsRefused (Some c) fault = fault ≡ NoMemory
