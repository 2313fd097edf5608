use Rattle.std.proofs.Common.{Vec, Global, ◌∙◌, ℕ, get_or, ap}
use Rattle.kern_plans.proofs.MoveLemmas.{rest_more, rest_same}
use Rattle.kern_plans.proofs.calls.merge.unlisted.Goals as goal
use Rattle.kern_plans.proofs.calls.merge.unlisted.Goals.{then-count_of-eq0+in_ok-push, else-count_of-eq0}

pub loop-page-preserved : goal.loop-page-preserved
loop-page-preserved c =
    let pages = c.args.pages.now in
    let i = c.loop-page.page-index in
    let count = c.count_of.ensures ∙ c.in_ok-counts.ensures (get_or pages i 0) in
    elim c.if-count_of-eq0.branch [
      | then-count_of-eq0+in_ok-push w ↦
          ap (λ (v : Vec ℕ Global). v.items) w.rest-is
          ∙ rest_more c.args.listed.now pages c.loop-page.rest.items w.push.new.self.items i c.count_of.result c.loop-page-test.true c.loop-page.invariant count w.if-count_of-eq0.true w.in_ok-push.ensures.items
      | else-count_of-eq0 w ↦
          ap (λ (v : Vec ℕ Global). v.items) w.rest-is
          ∙ rest_same c.args.listed.now pages c.loop-page.rest.items i c.count_of.result c.loop-page-test.true c.loop-page.invariant count w.if-count_of-eq0.false
    ]
