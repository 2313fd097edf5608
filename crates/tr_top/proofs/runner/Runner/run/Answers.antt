use Rattle.std.proofs.Common.{◌≡◌, ◌+◌, ◌<◌, List, length, get_or, take, drop, ap, ◌∙◌, subst, Err}
use Rattle.std.proofs.lemmas.Result.{err_from_is_err_and}
use Rattle.tr_script.specs.declared.script.Line.{Line}
use Rattle.tr_top.proofs.LineRuns.{declared_by, next_line, line_done}
use Rattle.tr_top.proofs.RunLemmas.{goes_on}
use Rattle.tr_top.proofs.runner.Runner.run.Goals as goal

pub follow-requires-clause-next : goal.follow-requires-clause-next
follow-requires-clause-next g c =
    let i = c.loop-line.invariant in
    let lines = c.args.self.now.lines in
    let line = c.line-item.result in
    let lt : c.loop-line.line-index < length lines = subst (λ (l : List Line). c.loop-line.line-index < length l) i.items c.loop-line-test.true in
    let at : line ≡ get_or lines c.loop-line.line-index line = c.line-item.is ∙ ap (λ (l : List Line). get_or l c.loop-line.line-index line) i.items in
    (drop (c.loop-line.line-index + 1) lines, declared_by (take c.loop-line.line-index lines), next_line c.args.self.now c.loop-line.self c.loop-line.line-index _ _ _ _ line c.requires.orderly i.runs lt at)

pub returns-in_err-follow-clause-goes : goal.returns-in_err-follow-clause-goes
returns-in_err-follow-clause-goes g c =
    let p = err_from_is_err_and c.from_residual.result c.from_residual.ensures.1 in
    goes_on c.from_residual.result c.in_err-follow.field-0.0 c.args.self.now c.loop-line.self c.follow.new.self _ _ _ _ _ _ (p.1 ∙ ap Err p.2) c.loop-line.invariant.runs.goes c.in_err-follow.ensures.goes

pub loop-line-preserved : goal.loop-line-preserved
loop-line-preserved g c =
    let i = c.loop-line.invariant in
    let f = c.in_ok-follow.ensures in
    let lines = c.args.self.now.lines in
    let line = c.line-item.result in
    let lt : c.loop-line.line-index < length lines = subst (λ (l : List Line). c.loop-line.line-index < length l) i.items c.loop-line-test.true in
    let at : line ≡ get_or lines c.loop-line.line-index line = c.line-item.is ∙ ap (λ (l : List Line). get_or l c.loop-line.line-index line) i.items in
    record {
      items = i.items;
      runs = line_done c.args.self.now c.loop-line.self c.follow.new.self c.loop-line.line-index _ _ _ _ _ _ line i.runs lt at
          (f.passed _ _ (next_line c.args.self.now c.loop-line.self c.loop-line.line-index _ _ _ _ line c.requires.orderly i.runs lt at)) f.goes;
    }
