-- How many names a directory has without the dropped commits.
use Rattle.std.proofs.Common.{◌≡◌, ◌≢◌, ◌⊎◌, inl, inr, ℕ, ◌+◌, Bool, true, false, cond, List, [], ◌∷◌, ◌++◌, length, map, filter, Option, Some, None, refl, sym, ap, ◌∙◌}
use Rattle.std.proofs.lemmas.Bool.{cond-true, cond-false}
use Rattle.std.specs.List.{IsDistinct}
use Rattle.zo_model.specs.Tree.{Member, Node, node_at, same_names, is_child}
use Rattle.zo_laws.proofs.MemberLemmas.{same_names_decides, cases_names, names_unlike, one_member, node_new, node_other, once_more}
use Rattle.zo_laws.proofs.NameCounts.{children_same, children_more}
use Rattle.zo_units.specs.Units.{Undo, Commitment, Lasts, undone, picked, node_left, IsLeftTree}
use Rattle.zo_units.specs.UnitLaws.{CountLaw}
use Rattle.zo_units.proofs.Nodes.{above_push}

-- what is left directly under a unit's names
left_under : (drop : ℕ → Bool) (lasts : Lasts) (tree : List Member) (names : List (List ℕ)) (last : Option Commitment) → lasts names ≡ last → (x : List ℕ)
    → node_left drop lasts tree (names ++ x ∷ []) ≡ picked drop last (names ++ x ∷ []) (node_at tree (names ++ x ∷ []))
left_under drop lasts tree names last is x = ap (λ (l : Option Commitment). picked drop l (names ++ x ∷ []) (node_at tree (names ++ x ∷ []))) (ap lasts (above_push names x) ∙ is)

counts_kept : (drop : ℕ → Bool) (lasts : Lasts) (tree other : List Member) (names : List (List ℕ)) → IsDistinct same_names (map (λ m. m.names) tree) → IsLeftTree drop lasts tree other
    → ((c : Commitment) → lasts names ≡ Some c → drop c.position ≡ false) → length (filter (is_child names) other) ≡ length (filter (is_child names) tree)
counts_kept drop lasts tree other names once o kept = children_same names tree other once o.once (λ x. o.nodes (names ++ x ∷ []) ∙ by x (lasts names) refl)
  where
    by : (x : List ℕ) (last : Option Commitment) → lasts names ≡ last → node_left drop lasts tree (names ++ x ∷ []) ≡ node_at tree (names ++ x ∷ [])
    by x None is = left_under drop lasts tree names None is x
    by x (Some c) is =
        left_under drop lasts tree names (Some c) is x
        ∙ cond-false (drop c.position) (undone c.undo (names ++ x ∷ []) (node_at tree (names ++ x ∷ []))) (node_at tree (names ++ x ∷ [])) (kept c is)

counts_made : (drop : ℕ → Bool) (lasts : Lasts) (tree other : List Member) (names : List (List ℕ)) (name : List ℕ) (node : Node) (c : Commitment) → IsDistinct same_names (map (λ m. m.names) tree)
    → IsLeftTree drop lasts tree other → lasts names ≡ Some c → drop c.position ≡ true → c.undo ≡ record { names = names ++ name ∷ []; node = None } ∷ [] → node_at tree (names ++ name ∷ []) ≡ Some node
    → length (filter (is_child names) tree) ≡ length (filter (is_child names) other) + 1
counts_made drop lasts tree other names name node c once o is dropped undo stands =
    sym (children_same names tree (other ++ one_member path node) once (once_more other path node gone o.once) same) ∙ children_more names name node other
  where
    path : List (List ℕ)
    path = names ++ name ∷ []

    left : (x : List ℕ) → node_at other (names ++ x ∷ []) ≡ cond (same_names path (names ++ x ∷ [])) None (node_at tree (names ++ x ∷ []))
    left x =
        o.nodes (names ++ x ∷ []) ∙ left_under drop lasts tree names (Some c) is x
        ∙ cond-true (drop c.position) (undone c.undo (names ++ x ∷ []) (node_at tree (names ++ x ∷ []))) (node_at tree (names ++ x ∷ [])) dropped
        ∙ ap (λ (u : List Undo). undone u (names ++ x ∷ []) (node_at tree (names ++ x ∷ []))) undo

    gone : node_at other path ≡ None
    gone = left name ∙ cond-true (same_names path path) None (node_at tree path) ((same_names_decides path path).1 refl)

    same : (x : List ℕ) → node_at (other ++ one_member path node) (names ++ x ∷ []) ≡ node_at tree (names ++ x ∷ [])
    same x = by (cases_names (names ++ x ∷ []) path)
      where
        by : (names ++ x ∷ [] ≡ path) ⊎ (names ++ x ∷ [] ≢ path) → node_at (other ++ one_member path node) (names ++ x ∷ []) ≡ node_at tree (names ++ x ∷ [])
        by (inl e) = ap (node_at (other ++ one_member path node)) e ∙ node_new other path node gone ∙ sym stands ∙ ap (node_at tree) (sym e)
        by (inr apart) =
            node_other other path (names ++ x ∷ []) node apart
            ∙ left x ∙ cond-false (same_names path (names ++ x ∷ [])) None (node_at tree (names ++ x ∷ [])) (names_unlike path (names ++ x ∷ []) (λ e. apart (sym e)))

pub counts : CountLaw
counts = record { kept = counts_kept; made = counts_made }
