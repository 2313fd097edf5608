use Rattle.std.proofs.Common.{◌∙◌, ℕ, subst, sym}
use Rattle.pm_words.specs.View.{ArePending}
use Rattle.pm_words.proofs.SettleLemmas.{popped_inside, popped_pending, popped_left}
use Rattle.pm_words.proofs.crash.settle.Goals as goal

pub settle_line-requires-clause-inside : goal.settle_line-requires-clause-inside
settle_line-requires-clause-inside c =
    let (all, gone, others, rest) = c.in-Some.ensures.updates in
    popped_inside _ _ c.in-Some.line c.in-Some.words c.in-Some.ensures.entries gone others _ c.loop-line.invariant.pending

pub loop-line-preserved : goal.loop-line-preserved
loop-line-preserved c =
    let (all, gone, others, rest) = c.in-Some.ensures.updates in
    let popped = c.in-Some.ensures.entries in
    record {
      len = c.settle_line.ensures.len ∙ c.loop-line.invariant.len;
      left = λ k. popped_left _ _ c.in-Some.line c.in-Some.words popped gone others c.args.choice c.loop-line.present c.settle_line.new.present
          c.settle_line.ensures.here c.settle_line.ensures.others k ∙ c.loop-line.invariant.left k;
      pending = subst (λ (n : ℕ). ArePending n c.pop.new.self.entries) (sym c.settle_line.ensures.len)
          (popped_pending _ _ c.in-Some.line c.in-Some.words popped gone others _ c.loop-line.invariant.pending);
    }

pub loop-line-preserved-in-Some : goal.loop-line-preserved-in-Some
loop-line-preserved-in-Some c =
    let (all, gone, others, rest) = c.in-Some.ensures.updates in
    let popped = c.in-Some.ensures.entries in
    record {
      len = c.settle_line.ensures.len ∙ c.loop-line.invariant.len;
      left = λ k. popped_left _ _ c.in-Some.line c.in-Some.words popped gone others c.args.choice c.loop-line.present c.settle_line.new.present
          c.settle_line.ensures.here c.settle_line.ensures.others k ∙ c.loop-line.invariant.left k;
      pending = subst (λ (n : ℕ). ArePending n c.pop.new.self.entries) (sym c.settle_line.ensures.len)
          (popped_pending _ _ c.in-Some.line c.in-Some.words popped gone others _ c.loop-line.invariant.pending);
    }
