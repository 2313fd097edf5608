-- What stands at a path with and without commits, and what a coffer's words denote, by its parts.
use Rattle.std.proofs.Common.{◌≡◌, ◌≢◌, ◌⊎◌, inl, inr, ℕ, ◌≤◌, ◌<◌, true, false, List, [], ◌∷◌, ◌++◌, map, Contains, Option, Some, None, refl, sym, ap, subst, ◌∙◌, arith, eq-eqb}
use Rattle.std.proofs.lemmas.Bool.{cond-true, cond-false}
use Rattle.std.proofs.lemmas.Option.{none-some}
use Rattle.std.specs.List.{IsDistinct, list_any}
use Rattle.zo_layout.specs.Layout.{page_at, control_intent}
use Rattle.zo_model.specs.Tree.{Member, Node, Directory, FileOf, node_at, same_names}
use Rattle.zo_model.specs.CofferWords.{CofferAt, Use, Control, IsMember, IsInLimits, IsDir, Denotes, wanted}
use Rattle.zo_laws.proofs.Members.{contains_here, contains_there}
use Rattle.zo_laws.proofs.MemberLemmas.{names_unlike}
use Rattle.zo_units.specs.Memory.{Memory, floor}
use Rattle.zo_units.specs.Units.{Undo, Commitment, Lasts, IsOpen, IsStill, above, undone, is_dropped, dropped_last, DenotesBy, IsSound}
use Rattle.zo_units.specs.UnitLaws.{DropsLaw}

pub above_push : (names : List (List ℕ)) (name : List ℕ) → above (names ++ name ∷ []) ≡ names
above_push [] name = refl
above_push (x ∷ []) name = refl
above_push (x ∷ (y ∷ names)) name = ap (λ (l : List (List ℕ)). x ∷ l) (above_push (y ∷ names) name)

-- a path that no part of the commit has
pub undone_other : (undo : List Undo) (path : List (List ℕ)) (node : Option Node) → ((u : Undo) → Contains undo u → u.names ≢ path) → undone undo path node ≡ node
undone_other [] path node other = refl
undone_other (u ∷ undo) path node other =
    cond-false (same_names u.names path) u.node (undone undo path node) (names_unlike u.names path (other u (contains_here u undo)))
    ∙ undone_other undo path node (λ v has. other v (contains_there u undo v has))

pub dir_or_not : (o : Option Node) → (o ≡ Some Directory) ⊎ (o ≡ Some Directory → ⊥)
dir_or_not None = inr (λ e. none-some Directory e)
dir_or_not (Some Directory) = inl refl
dir_or_not (Some (FileOf bytes)) = inr (λ e. cc)

pub commit_same : (c d : Commitment) → Some c ≡ Some d → c ≡ d
commit_same c d e = cc

-- a unit without a commit, or whose commit is durable, is still
pub still_none : (m : Memory) (last : Option Commitment) → last ≡ None → IsStill m last
still_none m last e c is opened = none-some c (sym e ∙ is)

pub still_durable : (m : Memory) (last : Option Commitment) (c : Commitment) → last ≡ Some c → c.place ≤ floor m c.addr → IsStill m last
still_durable m last c e durable d is opened =
    let same : c ≡ d = commit_same c d (sym e ∙ is) in
    let less : floor m c.addr < c.place = subst (λ (x : Commitment). floor m x.addr < x.place) (sym same) opened in
    omega (arith, durable, less)

pub drops : DropsLaw
drops places lasts unit_at order names c is =
    ap (λ (n : List (List ℕ)). dropped_last places c.position (lasts n)) (order names c is)
    ∙ ap (dropped_last places c.position) is
    ∙ cond-true _ (is_dropped places c) false (eq-eqb c.position c.position refl)

-- what it is that the words denote the tree, with these pages and uses
pub record IsTold (words : ℕ → ℕ) (coffer : CofferAt) (tree : List Member) (page_of : List (List ℕ) → ℕ) (use_of : ℕ → Use) : Type 0 where
  pub control : use_of coffer.control ≡ Control
  pub no_intent : words (control_intent (page_at coffer.control)) ≡ 0
  pub root : Node
  pub root_stands : node_at tree [] ≡ Some root
  pub root_page : page_of [] ≡ coffer.root
  pub once : IsDistinct same_names (map (λ m. m.names) tree)
  pub members : (names : List (List ℕ)) (node : Node) → node_at tree names ≡ Some node → IsMember words coffer tree use_of page_of names node
  pub inside : (names : List (List ℕ)) (name : List ℕ) (node : Node) → node_at tree (names ++ name ∷ []) ≡ Some node → IsDir tree names
  pub limits : (names : List (List ℕ)) (name : List ℕ) (target : ℕ) → IsDir tree names → wanted page_of coffer tree names name ≡ Some target → IsInLimits (coffer.path ++ (names ++ name ∷ []))
  pub below : (names : List (List ℕ)) (name : List ℕ) → list_any (same_names (names ++ name ∷ [])) coffer.below ≡ true → IsDir tree names × (node_at tree (names ++ name ∷ []) ≡ None)

told_of : (words : ℕ → ℕ) (coffer : CofferAt) (tree : List Member) (d : Denotes words coffer tree) → IsTold words coffer tree d.page_of d.use_of
told_of words coffer tree d = record {
  control = d.control;
  no_intent = d.no_intent;
  root = d.root;
  root_stands = d.root_stands;
  root_page = d.root_page;
  once = d.once;
  members = d.members;
  inside = d.inside;
  limits = d.limits;
  below = d.below;
}

pub told : (words : ℕ → ℕ) (coffer : CofferAt) (tree : List Member) (page_of : List (List ℕ) → ℕ) (use_of : ℕ → Use) → DenotesBy words coffer tree page_of use_of → IsTold words coffer tree page_of use_of
told words coffer tree page_of use_of d =
    subst (λ (p : List (List ℕ) → ℕ). IsTold words coffer tree p use_of) d.pages
    (subst (λ (u : ℕ → Use). IsTold words coffer tree d.denotes.page_of u) d.uses (told_of words coffer tree d.denotes))

pub denotes_by : (words : ℕ → ℕ) (coffer : CofferAt) (tree : List Member) (page_of : List (List ℕ) → ℕ) (use_of : ℕ → Use) → IsTold words coffer tree page_of use_of → DenotesBy words coffer tree page_of use_of
denotes_by words coffer tree page_of use_of t = record {
  denotes = record {
    use_of = use_of;
    page_of = page_of;
    control = t.control;
    no_intent = t.no_intent;
    root = t.root;
    root_stands = t.root_stands;
    root_page = t.root_page;
    once = t.once;
    members = t.members;
    inside = t.inside;
    limits = t.limits;
    below = t.below;
  };
  pages = refl;
  uses = refl;
}

-- a unit with an open commit is a directory
pub opened_dir : (m : Memory) (coffer : CofferAt) (tree : List Member) (page_of : List (List ℕ) → ℕ) (use_of : ℕ → Use) (lasts : Lasts) → IsSound m coffer tree page_of use_of lasts
    → (names : List (List ℕ)) (c : Commitment) → lasts names ≡ Some c → IsOpen m c → IsDir tree names
opened_dir m coffer tree page_of use_of lasts s names c is opened = by (dir_or_not (node_at tree names))
  where
    by : (IsDir tree names) ⊎ (IsDir tree names → ⊥) → IsDir tree names
    by (inl dir) = dir
    by (inr none) = absurd (s.closed names none c is opened)
