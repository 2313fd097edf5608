-- What the program's coffers stand for, and how they change.
use Rattle.std.specs.Prelude.{ℕ, List, [], ◌∷◌, ◌++◌, length, slice_get, Bool, true, Option, Some, None, option_and_then, nat_lt, if◌then◌else◌}
use Rattle.zo_model.specs.Coffers as spec
use Rattle.zo_model.specs.Tree.{Node, FileOf, same_names}
use Rattle.tr_answer.specs.declared.coffer.Closed.{Closed}
use Rattle.tr_answer.specs.declared.coffer.Closed.TheVariants as closed
use Rattle.tr_answer.specs.declared.coffer.Content.{Content}
use Rattle.tr_answer.specs.declared.coffer.Content.TheVariants as held

abbrev pub content_of : Content → spec.Content
content_of (held.Ready tree) = spec.Ready tree.items
content_of held.Lost = spec.Lost
content_of held.Quarantined = spec.Quarantined

-- a tree of this root alone
abbrev pub root_of : Node → spec.Content
root_of node = spec.Ready (record { names = []; node = node } ∷ [])

-- the coffer at a place that may be none
abbrev pub coffer_at : List spec.Coffer → Option ℕ → Option spec.Coffer
coffer_at coffers at = option_and_then (slice_get coffers) at

-- the coffer has a longer path than another, if there is one
abbrev pub is_deeper_than : spec.Coffer → Option spec.Coffer → Bool
is_deeper_than coffer None = true
is_deeper_than coffer (Some other) = nat_lt (length other.path) (length coffer.path)

-- the content with an empty file under these names, where it is a tree
abbrev pub content_with_file : spec.Content → List (List ℕ) → spec.Content
content_with_file (spec.Ready tree) names = spec.Ready (tree ++ record { names = names; node = FileOf [] } ∷ [])
content_with_file spec.Lost names = spec.Lost
content_with_file spec.Quarantined names = spec.Quarantined

abbrev pub with_file : spec.Coffer → List (List ℕ) → spec.Coffer
with_file coffer names = record { path = coffer.path; perm = coffer.perm; content = content_with_file coffer.content names }

abbrev pub content_closed : Closed → spec.Content
content_closed closed.Lost = spec.Lost
content_closed closed.Quarantined = spec.Quarantined

-- the coffer with another content
abbrev pub closed_coffer : spec.Content → spec.Coffer → spec.Coffer
closed_coffer content coffer = record { path = coffer.path; perm = coffer.perm; content = content }

-- the same where it has this path
abbrev pub with_content : List (List ℕ) → spec.Content → spec.Coffer → spec.Coffer
with_content names content coffer = if same_names coffer.path names then closed_coffer content coffer else coffer
