use Rattle.std.proofs.Common.{◌≡◌, Some, length, slice_get, refl, ◌∙◌}
use Rattle.std.proofs.lemmas.Option.{slice_get_read}
use Rattle.tr_answer.proofs.CofferLemmas.{grown_ok, paths_stay, file_path}
use Rattle.tr_answer.proofs.answers.grow.Goals as goal

pub returns-clause-ok : goal.returns-clause-ok
returns-clause-ok c =
    let coffers = c.args.coffers.now.items in
    let coffer = c.in-Some.coffer.now in
    let stands : slice_get coffers c.args.at ≡ Some coffer = slice_get_read coffers (length coffers) c.args.at coffer refl c.in-Some.ensures.item.3.0 c.in-Some.ensures.value in
    grown_ok coffers c.args.at coffer c.add_file.new.self c.args.names.now c.in_ok-inner.inner c.add_file.result c.requires stands (c.in_ok-inner.ensures ∙ c.within.ensures) c.add_file.ensures.ok

pub returns-clause-paths : goal.returns-clause-paths
returns-clause-paths c =
    let coffers = c.args.coffers.now.items in
    let coffer = c.in-Some.coffer.now in
    let stands : slice_get coffers c.args.at ≡ Some coffer = slice_get_read coffers (length coffers) c.args.at coffer refl c.in-Some.ensures.item.3.0 c.in-Some.ensures.value in
    paths_stay coffers c.args.at coffer c.add_file.new.self stands (file_path coffer c.add_file.new.self c.in_ok-inner.inner c.add_file.result c.add_file.ensures.ok c.add_file.ensures.err)
