-- The world in which the root coffer is the only one: what users see of it, and what its words denote.
use Rattle.std.proofs.Common.{◌≡◌, inl, inr, ℕ, Bool, true, false, List, [], ◌∷◌, ◌++◌, map, Contains, if◌then◌else◌, refl, sym, ap, subst, ◌∙◌}
use Rattle.std.specs.Prelude.{Option, Some, None}
use Rattle.std.specs.List.{IsDistinct}
use Rattle.std.proofs.lemmas.Bool.{cond_both}
use Rattle.pm_words.specs.Word.{Word}
use Rattle.kern_model.specs.KernelView.{value, pages_of}
use Rattle.kern_model.specs.Kernel.{coffers}
use Rattle.kern_model.specs.KernelTables.{Coffer as KernelCoffer}
use Rattle.tr_types.specs.Paths.{names_of}
use Rattle.tr_types.specs.declared.action.Answer.{Answer}
use Rattle.tr_types.specs.declared.command.Command.{Command}
use Rattle.tr_types.specs.declared.command.Command.TheVariants.{Create, Stat}
use Rattle.tr_types.specs.declared.command.Reply.{Reply}
use Rattle.tr_types.specs.declared.command.Reply.TheVariants as reply
use Rattle.tr_types.specs.declared.entry.Mark.{Mark}
use Rattle.zo_model.specs.Alone.{root_coffer, root_cred}
use Rattle.zo_model.specs.Answers.{Answered, Walk, Reaches, MissesName, MeetsFile, answer, consulted, told, make, is_too_long, is_denied, stands, walk, perm_of, state_of, read_right, write_right}
use Rattle.zo_model.specs.CofferWords.{Denotes}
use Rattle.zo_model.specs.Coffers.{Content, Ready, Lost, Quarantined, Coffer, within, parent, path_text}
use Rattle.zo_model.specs.Commands.{IsCommand}
use Rattle.zo_model.specs.Legal.{moved_to}
use Rattle.zo_model.specs.Seats.{Seat, is_commit}
use Rattle.zo_model.specs.Steps.{Scene}
use Rattle.zo_model.specs.Steps.{IsDenoted as SceneDenoted}
use Rattle.zo_model.specs.Tree.{Member, Directory, FileOf, same_names}
use Rattle.tr_types.specs.declared.permission.Cred.{Cred}
use Rattle.tr_model.specs.RootCoffer.{IsRootAlone}
use Rattle.tr_model.specs.RootCoffer.{root_coffer as kernel_root}
use Rattle.tr_model.specs.Worlds.{World, Row, root_row, coffers_of, coffers_at, trees_after, tree_in, moved_trees, answered, HasWords, IsTabled, IsRowOf, IsDenoted}
use Rattle.tr_model.proofs.RootLemmas.{one_alone}
use Rattle.tr_dispatch.specs.Rooted.{IsRooted, root_at}
use Rattle.tr_dispatch.proofs.Members.{contains_here, contains_cases, contains_none}

-- what users see is the root coffer with its tree
pub coffers_are : (w : World) → w.base.table ≡ root_row ∷ [] → coffers_at w ≡ root_coffer (w.trees 0) ∷ []
coffers_are w table = ap (λ (rows : List Row). coffers_of rows w.trees) table

only_one : {X : Type 0} (x y : X) → Contains (x ∷ []) y → x ≡ y
only_one x y among = elim (contains_cases x [] y among) [
  | inl same ↦ same
  | inr none ↦ absurd (contains_none y none)
]

-- The table of the root coffer alone is the kernel's.
root_row_of : (words : List Word) → IsRowOf root_row (kernel_root (pages_of words))
root_row_of words = record { path_is = refl; perm_is = refl; state_is = refl }

root_among : (words : List Word) → IsRootAlone words → Contains (coffers words) (kernel_root (pages_of words))
root_among words alone = subst (λ (cs : List KernelCoffer). Contains cs (kernel_root (pages_of words))) (sym (one_alone words alone)) (contains_here (kernel_root (pages_of words)) [])

once : (names : List (List ℕ)) → IsDistinct same_names (names ∷ [])
unfolding IsDistinct
once names = (tt, tt)

pub root_tabled : (words : List Word) → IsRootAlone words → IsTabled words (root_row ∷ [])
root_tabled words alone = record {
  rows = λ row among. (kernel_root (pages_of words), root_among words alone, subst (λ (r : Row). IsRowOf r (kernel_root (pages_of words))) (only_one root_row row among) (root_row_of words));
  coffers_are = λ coffer among. (
    root_row,
    contains_here root_row [],
    subst (IsRowOf root_row) (only_one (kernel_root (pages_of words)) coffer (subst (λ (cs : List KernelCoffer). Contains cs coffer) (one_alone words alone) among)) (root_row_of words),
  );
  rows_once = once [];
  coffers_once = subst (λ (cs : List KernelCoffer). IsDistinct same_names (map (λ c. names_of c.path) cs)) (sym (one_alone words alone)) (once []);
}

-- all is denoted where the root coffer's words denote its tree
pub denoted_of : (w : World) → IsRooted w → Denotes (value w.base.machine.bus.words) (root_at w) (w.trees 0) → IsDenoted w
denoted_of w rooted denotes = record {
  tabled = subst (IsTabled w.base.machine.bus.words) (sym rooted.table) (root_tabled w.base.machine.bus.words rooted.kernel.alone);
  ready = λ row among is.
      subst (λ (r : Row). HasWords w.base.machine.bus.words w.base.table r (w.trees r.birth)) (only_one root_row row (subst (λ (rows : List Row). Contains rows row) rooted.table among)) (record {
        coffer = kernel_root (pages_of w.base.machine.bus.words);
        among = root_among w.base.machine.bus.words rooted.kernel.alone;
        path_is = refl;
        perm_is = refl;
        denotes = denotes;
      });
}

-- every command consults it
consulted_root : (tree : List Member) (command : Command) → consulted (root_coffer tree ∷ []) command ≡ Some (root_coffer tree)
consulted_root tree (Create path mode) = refl
consulted_root tree (Stat path) = refl

abbrev tree_of : Content → List Member
tree_of (Ready tree) = tree
tree_of Lost = []
tree_of Quarantined = []

abbrev tree_seen : List Member → Option Coffer → List Member
tree_seen tree None = tree
tree_seen tree (Some coffer) = tree_of coffer.content

-- so that the words of a scene denote its tree
pub scene_denotes : (s : Scene) (tree : List Member) → s.coffers ≡ root_coffer tree ∷ [] → SceneDenoted s → Denotes s.at s.coffer tree
scene_denotes s tree coffers (mine, other, consults, denotes) = subst (Denotes s.at s.coffer) same denotes
  where
    same : other ≡ tree
    same =
        sym (ap tree_of consults.content_is)
        ∙ ap (tree_seen tree) (sym consults.consulted_is ∙ ap (λ (cs : List Coffer). consulted cs s.seat.command) coffers ∙ consulted_root tree s.seat.command)

-- An answer after which the root coffer is still the only one.
abbrev pub KeepsAlone : Option Answered → Type 0
KeepsAlone None = Unit {0}
KeepsAlone (Some a) = (tree : List Member) × (a.coffers ≡ root_coffer tree ∷ [])

make_keeps : (tree : List Member) (names : List (List ℕ)) (way : Walk) → KeepsAlone (Some (make (root_coffer tree ∷ []) (root_coffer tree) tree names (perm_of root_cred 438) (FileOf []) way))
make_keeps tree names (Reaches Directory) =
    cond_both (stands (root_coffer tree ∷ []) (root_coffer tree) tree names) _ _ (λ (a : Answered). KeepsAlone (Some a)) (λ e. (tree, refl)) (λ e. (tree ++ record { names = names; node = FileOf [] } ∷ [], refl))
make_keeps tree names (Reaches (FileOf bytes)) = (tree, refl)
make_keeps tree names MissesName = (tree, refl)
make_keeps tree names MeetsFile = (tree, refl)

-- two refusals change nothing
by_tests : (tree : List Member) (long denied : Bool) (one two : Reply) (last : Option Answered) → KeepsAlone last
    → KeepsAlone (if long then Some (told (root_coffer tree ∷ []) one) else (if denied then Some (told (root_coffer tree ∷ []) two) else last))
by_tests tree true denied one two last keeps = (tree, refl)
by_tests tree false true one two last keeps = (tree, refl)
by_tests tree false false one two last keeps = keeps

-- every command is answered so to its owner
pub answer_keeps : (tree : List Member) (command : Command) → IsCommand command → KeepsAlone (answer (root_coffer tree ∷ []) root_cred command)
answer_keeps tree (Create path mode) (one, is) =
    subst (λ (m : ℕ). KeepsAlone (answer (root_coffer tree ∷ []) root_cred (Create path m))) (sym is)
    (by_tests tree (is_too_long path) (is_denied root_cred (record { right = write_right; coffer = root_coffer tree })) reply.TooLong (reply.Denied write_right (path_text []))
    (Some (make (root_coffer tree ∷ []) (root_coffer tree) tree (names_of path) (perm_of root_cred 438) (FileOf []) (walk tree [] (within (root_coffer tree) (parent (names_of path))))))
    (make_keeps tree (names_of path) (walk tree [] (within (root_coffer tree) (parent (names_of path))))))
answer_keeps tree (Stat path) is =
    by_tests tree (is_too_long path) (is_denied root_cred (record { right = read_right; coffer = root_coffer tree })) reply.TooLong (reply.Denied read_right (path_text []))
    (Some (told (root_coffer tree ∷ []) (state_of (root_coffer tree ∷ []) (root_coffer tree) tree (within (root_coffer tree) (names_of path)) (walk tree [] (within (root_coffer tree) (names_of path))))))
    (tree, refl)

-- What users see after an action is what the command's answer says where it is a commit, and else as before.
commit_coffers : (trees : ℕ → List Member) (a : Option Answered) → KeepsAlone a → coffers_of (root_row ∷ []) (trees_after (root_row ∷ []) trees a) ≡ moved_to a (coffers_of (root_row ∷ []) trees)
commit_coffers trees None keeps = refl
commit_coffers trees (Some a) (tree, is) = ap (λ (cs : List Coffer). root_coffer (tree_in cs [] (trees 0)) ∷ []) is ∙ sym is

module _ (w : World) (table : w.base.table ≡ root_row ∷ []) (seat : Seat) (cred : seat.cred ≡ root_cred) (valid : IsCommand seat.command) where
  abbrev IsMoved : List Row → Type 0
  IsMoved rows = coffers_of rows (trees_after rows w.trees (answered rows w.trees seat)) ≡ moved_to (answer (coffers_of rows w.trees) seat.cred seat.command) (coffers_of rows w.trees)

  committed : IsMoved w.base.table
  committed =
      subst IsMoved (sym table)
      (commit_coffers w.trees (answered (root_row ∷ []) w.trees seat) (subst (λ (c : Cred). KeepsAlone (answer (root_coffer (w.trees 0) ∷ []) c seat.command)) (sym cred) (answer_keeps (w.trees 0) seat.command valid)))

  moved_by : (commits : Bool) → coffers_of w.base.table (moved_trees commits w.base.table w.trees (Some seat)) ≡ (if commits then moved_to (answer (coffers_at w) seat.cred seat.command) (coffers_at w) else coffers_at w)
  moved_by true = committed
  moved_by false = refl

  pub coffers_moved : (thread : ℕ) (mark : Mark) (given : Answer) → w.base.seats thread ≡ Some seat
      → coffers_of w.base.table (moved_trees (is_commit mark given) w.base.table w.trees (w.base.seats thread)) ≡ (if is_commit mark given then moved_to (answer (coffers_at w) seat.cred seat.command) (coffers_at w) else coffers_at w)
  coffers_moved thread mark given is =
      ap (λ (s : Option Seat). coffers_of w.base.table (moved_trees (is_commit mark given) w.base.table w.trees s)) is ∙ moved_by (is_commit mark given)
