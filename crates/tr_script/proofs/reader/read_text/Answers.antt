use Rattle.std.proofs.Common.{inl}
use Rattle.tr_script.proofs.WordLemmas.{on_bad_map}
use Rattle.tr_script.proofs.PlaceLemmas.{over_limit}
use Rattle.tr_script.proofs.reader.read_text.Goals as goal

pub returns-then-text-gt-TEXT_LIMIT-clause-place : goal.returns-then-text-gt-TEXT_LIMIT-clause-place
returns-then-text-gt-TEXT_LIMIT-clause-place c = over_limit c.args.text.now c.fault_over_limit.result c.if-text-gt-TEXT_LIMIT.true c.fault_over_limit.ensures

pub returns-clause-place : goal.returns-clause-place
returns-clause-place c =
    let inside = c.if-text-gt-TEXT_LIMIT.false in
    on_bad_map c.read_lines.result (λ place bad. inl (inside, bad)) c.read_lines.ensures.place
