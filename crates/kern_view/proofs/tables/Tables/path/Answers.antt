use Rattle.std.proofs.Common.{◌≡◌, ℕ, ◌-◌, List, length, Option, get_or, ap, ◌∙◌, arith}
use Rattle.kern_view.specs.Reads.{paths_there}
use Rattle.kern_view.proofs.ReadLemmas.{length_paths, path_at}
use Rattle.kern_view.proofs.tables.Tables.path.Goals as goal

pub index-requires : goal.index-requires
index-requires c =
    let len : length c.self.inside.paths.items ≡ 256 =
    ap (λ (paths : List (Option (List ℕ))). length paths) c.self.invariant ∙ length_paths c.self.inside.view in
    omega arith

pub returns : goal.returns
returns c =
    c.as_ref.ensures.value ∙ c.index.ensures
    ∙ ap (λ (paths : List (Option (List ℕ))). get_or paths (c.from.result - 1) c.index.result.now) (c.self.invariant ∙ ap paths_there c.self.view_is)
    ∙ path_at c.args.self.now c.args.id (c.from.result - 1) c.index.result.now c.requires.least c.requires.most (omega arith)
