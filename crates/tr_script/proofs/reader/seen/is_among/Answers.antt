use Rattle.std.proofs.Common.{rules, tests, ◌==◌}
use Rattle.std.proofs.lemmas.Iterator.{YieldsList-from_slice}
use Rattle.std.proofs.lemmas.Iterator.Search.{any_from_yields_List}
use Rattle.tr_script.proofs.reader.seen.is_among.Goals as goal

pub returns : goal.returns
returns c =
    any_from_yields_List (λ t. t.0 == c.args.thread) _ _ _ c.any.ensures.ran (YieldsList-from_slice c.args.threads.now c.iter.ensures.rest)
    (λ x b q k. search (rules, tests))
