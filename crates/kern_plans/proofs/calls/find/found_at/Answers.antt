use Rattle.std.proofs.Common.{◌∙◌, sym}
use Rattle.kern_plans.proofs.LookLemmas.{found_so, root_there, found_at_is}
use Rattle.kern_plans.proofs.calls.find.found_at.Goals as goal

pub unwrap-root-requires : goal.unwrap-root-requires
unwrap-root-requires c =
    let found = found_so c.args.words.now c.args.path.now c.find-found.result c.find-found.ensures in
    root_there c.args.words.now c.args.path.now c.find-found.result found.0 c.entry_of.result found.1 c.entry_of.ensures

pub returns : goal.returns
returns c =
    let found = found_so c.args.words.now c.args.path.now c.find-found.result c.find-found.ensures in
    found_at_is c.args.words.now c.args.path.now c.find-found.result found.0 c.unwrap-root.result found.1 (sym c.unwrap-root.ensures ∙ c.entry_of.ensures)
