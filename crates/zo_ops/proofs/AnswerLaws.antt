-- What commands are answered in the root coffer alone.
use Rattle.std.proofs.Common.{◌≡◌, ℕ, suc, ◌+◌, ◌≤◌, List, [], ◌∷◌, ◌++◌, length, drop, filter, codes, false, cond, Option, Some, None, is_some, refl, ap, ◌∙◌, arith, ◌||◌, nat_lt}
use Rattle.std.proofs.lemmas.Bool.{cond-false, le-ltb, or_from}
use Rattle.std.specs.List.{list_any}
use Rattle.tr_types.specs.Paths.{names_of}
use Rattle.tr_types.specs.declared.command.Command.TheVariants.{Create, Stat}
use Rattle.tr_types.specs.declared.command.Kind.TheVariants.{File, Dir}
use Rattle.tr_types.specs.declared.command.Reply.TheVariants.{Made, Info, Exists, NotFound}
use Rattle.zo_model.specs.Tree.{Member, Node, Directory, FileOf, node_at, is_child}
use Rattle.zo_model.specs.Alone.{root_coffer, root_cred}
use Rattle.zo_model.specs.Answers.{Reaches, arrived, entered, walk, told, state_of, make, made, perm_of, answer, is_too_long}
use Rattle.zo_model.specs.CofferWords.{IsDir}
use Rattle.zo_model.specs.Coffers.{Coffer, within, parent, is_coffer}
use Rattle.zo_model.specs.Commands.{IsPathOfOne}
use Rattle.zo_ops.proofs.NameLaws.{names_of_path}

-- a new file under this name
abbrev pub new_file : List ℕ → Member
new_file name = record { names = name ∷ []; node = FileOf [] }

-- the coffers with this tree
abbrev pub alone : List Member → List Coffer
alone tree = root_coffer tree ∷ []

short_names : (name : List ℕ) → length name ≤ 255 → list_any (λ n. nat_lt 255 (length n)) (name ∷ []) ≡ false
short_names name short = or_from (nat_lt 255 (length name)) false (le-ltb 255 (length name) short) refl

not_too_long : (path : List ℕ) → IsPathOfOne path → is_too_long path ≡ false
not_too_long [] one = absurd one
not_too_long (byte ∷ name) one =
    let names = names_of_path (byte ∷ name) one in
    or_from (nat_lt 1024 (suc (length name)) || nat_lt 32 (length (names_of (byte ∷ name)))) (list_any (λ n. nat_lt 255 (length n)) (names_of (byte ∷ name)))
    (or_from (nat_lt 1024 (suc (length name))) (nat_lt 32 (length (names_of (byte ∷ name)))) (le-ltb 1024 (suc (length name)) (omega (arith, one.1.short))) (ap (λ (ns : List (List ℕ)). nat_lt 32 (length ns)) names))
    (ap (λ (ns : List (List ℕ)). list_any (λ n. nat_lt 255 (length n)) ns) names ∙ short_names name one.1.short)

-- a create of a path of one name
module _ (tree : List Member) (root : IsDir tree []) (path : List ℕ) (one : IsPathOfOne path) where
  create_by : answer (alone tree) root_cred (Create path 438) ≡ Some (make (alone tree) (root_coffer tree) tree (drop 1 path ∷ []) (perm_of root_cred 438) (FileOf []) (Reaches Directory))
  create_by = cond-false (is_too_long path) _ _ (not_too_long path one)
      ∙ ap (λ (ns : List (List ℕ)). Some (make (alone tree) (root_coffer tree) tree ns (perm_of root_cred 438) (FileOf []) (walk tree [] (within (root_coffer tree) (parent ns))))) (names_of_path path one)
      ∙ ap (λ (node : Option Node). Some (make (alone tree) (root_coffer tree) tree (drop 1 path ∷ []) (perm_of root_cred 438) (FileOf []) (arrived node))) root

  pub create_exists : (node : Node) → node_at tree (drop 1 path ∷ []) ≡ Some node → answer (alone tree) root_cred (Create path 438) ≡ Some (told (alone tree) Exists)
  create_exists node stands = create_by ∙ ap (λ (n : Option Node). Some (cond (is_some n || is_coffer (alone tree) (drop 1 path ∷ [])) (told (alone tree) Exists) (made (alone tree) (root_coffer tree) tree (drop 1 path ∷ []) (perm_of root_cred 438) (FileOf [])))) stands

  pub create_makes : node_at tree (drop 1 path ∷ []) ≡ None → answer (alone tree) root_cred (Create path 438) ≡ Some (record { reply = Made; coffers = alone (tree ++ new_file (drop 1 path) ∷ []) })
  create_makes none = create_by ∙ ap (λ (n : Option Node). Some (cond (is_some n || is_coffer (alone tree) (drop 1 path ∷ [])) (told (alone tree) Exists) (made (alone tree) (root_coffer tree) tree (drop 1 path ∷ []) (perm_of root_cred 438) (FileOf [])))) none

  -- a stat of one
  stat_by : (found : Option Node) → node_at tree (drop 1 path ∷ []) ≡ found → answer (alone tree) root_cred (Stat path) ≡ Some (told (alone tree) (state_of (alone tree) (root_coffer tree) tree (drop 1 path ∷ []) (arrived found)))
  stat_by found is = cond-false (is_too_long path) _ _ (not_too_long path one)
      ∙ ap (λ (ns : List (List ℕ)). Some (told (alone tree) (state_of (alone tree) (root_coffer tree) tree (within (root_coffer tree) ns) (walk tree [] (within (root_coffer tree) ns))))) (names_of_path path one)
      ∙ ap (λ (n : Option Node). Some (told (alone tree) (state_of (alone tree) (root_coffer tree) tree (drop 1 path ∷ []) (entered n (arrived (node_at tree (drop 1 path ∷ []))))))) root
      ∙ ap (λ (n : Option Node). Some (told (alone tree) (state_of (alone tree) (root_coffer tree) tree (drop 1 path ∷ []) (arrived n)))) is

  pub stat_missing : node_at tree (drop 1 path ∷ []) ≡ None → answer (alone tree) root_cred (Stat path) ≡ Some (told (alone tree) NotFound)
  stat_missing none = stat_by None none

  pub stat_file : (bytes : List ℕ) → node_at tree (drop 1 path ∷ []) ≡ Some (FileOf bytes) → answer (alone tree) root_cred (Stat path) ≡ Some (told (alone tree) (Info File (length bytes) 0 0 438))
  stat_file bytes stands = stat_by (Some (FileOf bytes)) stands

-- a stat of the root directory
pub stat_root : (tree : List Member) (path : List ℕ) → IsDir tree [] → path ≡ codes "/" → answer (alone tree) root_cred (Stat path) ≡ Some (told (alone tree) (Info Dir (length (filter (is_child []) tree)) 0 0 438))
stat_root tree path root is =
    ap (λ (p : List ℕ). answer (alone tree) root_cred (Stat p)) is
    ∙ ap (λ (n : Option Node). Some (told (alone tree) (state_of (alone tree) (root_coffer tree) tree [] (arrived n)))) root
    ∙ ap (λ n. Some (told (alone tree) (Info Dir n 0 0 438))) (none_under (length (filter (is_child []) tree)))
  where
    none_under : (n : ℕ) → n + 0 ≡ n
    none_under n = omega arith
