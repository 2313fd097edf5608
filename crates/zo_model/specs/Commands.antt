-- Which paths and commands can be given.
use Rattle.std.specs.Prelude.{◌≡◌, ◌≢◌, ◌⊎◌, ℕ, ◌<◌, ◌≤◌, List, [], ◌∷◌, length, All, codes}
use Rattle.tr_types.specs.Paths.{directory_path}
use Rattle.tr_types.specs.declared.command.Command.{Command}
use Rattle.tr_types.specs.declared.command.Command.TheVariants.{Create, Stat}

abbrev pub IsNameByte : ℕ → Type 0
IsNameByte byte = (33 ≤ byte) × (byte ≤ 126) × (byte ≢ 47)

pub record IsName (name : List ℕ) : Type 0 where
  pub some : 0 < length name
  pub short : length name ≤ 255
  pub bytes : All IsNameByte name
  pub no_dot : name ≢ codes "."
  pub no_dots : name ≢ codes ".."

-- a path of one name
abbrev pub IsPathOfOne : List ℕ → Type 0
IsPathOfOne [] = ⊥
IsPathOfOne (byte ∷ name) = (byte ≡ 47) × IsName name

abbrev pub IsPath : List ℕ → Type 0
IsPath path = (path ≡ codes "/") ⊎ IsPathOfOne path

abbrev pub IsCommand : Command → Type 0
IsCommand (Create path mode) = IsPathOfOne path × (mode ≡ 438)
IsCommand (Stat path) = IsPath path

-- the path that a command looks for, and whose coffer it consults: of a `create` that of the directory in which it makes the
-- file
abbrev pub sought_path : Command → List ℕ
sought_path (Create path mode) = directory_path path
sought_path (Stat path) = path

-- the same where each path has one name at most
abbrev pub consulted_path : Command → List ℕ
consulted_path (Create path mode) = codes "/"
consulted_path (Stat path) = path

-- the right that a command needs on that coffer: 1 is Read, 2 is Write
abbrev pub right_needed : Command → ℕ
right_needed (Create path mode) = 2
right_needed (Stat path) = 1
