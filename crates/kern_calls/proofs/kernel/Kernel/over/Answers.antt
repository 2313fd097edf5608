use Rattle.std.proofs.Common.{◌∙◌, ℕ, List, length, ap}
use Rattle.kern_pages.specs.Owners.{TellsOwners}
use Rattle.kern_calls.proofs.kernel.Kernel.over.Goals as goal

pub new_tables-requires : goal.new_tables-requires
new_tables-requires c =
    let told : TellsOwners c.args.words.now = c.owners_law.ensures c.args.words.now in
    ap (λ (owners : List ℕ). length owners) c.in_ok-owners.ensures ∙ told.count
