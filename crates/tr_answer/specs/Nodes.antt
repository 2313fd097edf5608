-- What the program's nodes and walks stand for, and which parts of a path are its names.
use Rattle.std.specs.Prelude.{ℕ, List, filter, not, ◌==◌, length}
use Rattle.zo_model.specs.Answers.{Walk}
use Rattle.zo_model.specs.Answers.Walk.{Reaches, MissesName, MeetsFile}
use Rattle.zo_model.specs.Tree as spec
use Rattle.zo_model.specs.Tree.Node.{Directory, FileOf}
use Rattle.tr_answer.specs.declared.tree.Node.{Node}
use Rattle.tr_answer.specs.declared.tree.Node.TheVariants as held
use Rattle.tr_answer.specs.declared.tree.WalkEnd.{WalkEnd}
use Rattle.tr_answer.specs.declared.tree.WalkEnd.TheVariants as ended

abbrev pub node_of : Node → spec.Node
node_of held.Directory = Directory
node_of (held.File bytes) = FileOf bytes

abbrev pub walk_of : WalkEnd → Walk
walk_of (ended.Reaches node) = Reaches (node_of node.now)
walk_of ended.MissesName = MissesName
walk_of ended.MeetsFile = MeetsFile

-- the parts that aren't empty
abbrev pub names_kept : List (List ℕ) → List (List ℕ)
names_kept parts = filter (λ part. not (length part == 0)) parts
