use Rattle.std.proofs.Common.{ℕ, ◌/◌, List, [], refl, sym, subst, arith, Option, unwrap_or, Contains, inr}
use Rattle.pm_words.proofs.PlaceLemmas.{fenced_at, so_far_all}
use Rattle.pm_words.proofs.ViewLemmas.{fence_is}
use Rattle.pm_words.proofs.memory.Words.fence.Goals as goal

pub returns-in-Some-clause-words : goal.returns-in-Some-clause-words
returns-in-Some-clause-words c =
    let all = c.fence_lines.ensures.fenced (λ l some.
    subst (λ (o : Option (List ℕ)). Contains (unwrap_or o []) l) (sym c.in-Some.ensures.value) (c.self.invariant.noted c.args.thread l some)) in
    fence_is _ _ _ _ _ c.self.view_is (λ k. fenced_at c.args.thread c.self.inside.pending.entries c.fence_lines.new.pending.entries k (all (k / 8)))

pub returns-in-None-clause-words : goal.returns-in-None-clause-words
returns-in-None-clause-words c =
    let es = c.self.inside.pending.entries in
    fence_is _ _ _ _ _ c.self.view_is (λ k. fenced_at c.args.thread es es k (so_far_all c.args.thread [] es es
    (λ l some. subst (λ (o : Option (List ℕ)). Contains (unwrap_or o []) l) (sym c.in-None.ensures.value) (c.self.invariant.noted c.args.thread l some))
    (k / 8) (inr (refl, λ j from lt. absurd (omega arith)))))
