-- The root coffer as it stands as long as no call makes a coffer or a directory: alone, and with files alone in its root
-- directory.
use Rattle.std.specs.Prelude.{◌≡◌, ℕ, List, [], ◌∷◌}
use Rattle.tr_types.specs.Permission.{no_groups}
use Rattle.tr_types.specs.declared.permission.Cred.{Cred}
use Rattle.tr_types.specs.declared.permission.Perm.{Perm}
use Rattle.zo_model.specs.Tree.{Member}
use Rattle.zo_model.specs.CofferWords.{CofferAt, IsDir}
use Rattle.zo_model.specs.Coffers.{Ready, Coffer}

-- uid 0, gid 0 and mode 666
abbrev pub root_perm : Perm
root_perm = record { uid = 0; gid = 0; mode = 438 }

abbrev pub root_coffer : List Member → Coffer
root_coffer tree = record { path = []; perm = root_perm; content = Ready tree }

-- the credentials of its owner
abbrev pub root_cred : Cred
root_cred = record { uid = 0; gid = 0; groups = no_groups }

-- the coffers that users see, and the one that is mapped
pub record IsAlone (coffers : List Coffer) (coffer : CofferAt) (tree : List Member) : Type 0 where
  pub coffers_are : coffers ≡ root_coffer tree ∷ []
  pub path : coffer.path ≡ []
  pub below : coffer.below ≡ []
  pub root : IsDir tree []
  pub dirs : (names : List (List ℕ)) → IsDir tree names → names ≡ []
