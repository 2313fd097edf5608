-- A step of a walk.
use Rattle.std.proofs.Common.{◌≡◌, ℕ, ◌+◌, ◌<◌, List, [], length, take, drop, Option, ap, sym, ◌∙◌}
use Rattle.std.proofs.lemmas.List.{drop_more, take_more}
use Rattle.zo_model.specs.Tree.{Member, Node, node_at}
use Rattle.zo_model.specs.Answers.{walk, entered}

-- the walk from the place `i` on, by what stands there
pub walk_here : (tree : List Member) (names : List (List ℕ)) (i : ℕ) (here : Option Node) → i < length names → here ≡ node_at tree (take i names)
    → walk tree (take i names) (drop i names) ≡ entered here (walk tree (take (i + 1) names) (drop (i + 1) names))
walk_here tree names i here lt is =
    ap (walk tree (take i names)) (drop_more names i [] lt)
    ∙ (ap (λ (done : List (List ℕ)). entered (node_at tree (take i names)) (walk tree done (drop (i + 1) names))) (sym (take_more names i [] lt))
    ∙ ap (λ (node : Option Node). entered node (walk tree (take (i + 1) names) (drop (i + 1) names))) (sym is))
