use Rattle.std.proofs.Common.{ℕ, length, ◌∙◌}
use Rattle.std.proofs.lemmas.List.Elements.{All-same}
use Rattle.pm_words.specs.Memory.{IsAddress}
use Rattle.kern_model.specs.KernelCalls.{in_order}
use Rattle.kern_commit.proofs.OrderLemmas.{in_order_all}
use Rattle.kern_commit.proofs.steps.store_pairs.Goals as goal

pub apply-requires : goal.apply-requires
apply-requires c =
    All-same (λ (p : ℕ × ℕ). IsAddress (length c.args.words.now) p.0) c.deref.result.now (in_order c.args.pairs.now) (c.deref.ensures.value ∙ c.in_ok-in_order.ensures) (in_order_all (λ (p : ℕ × ℕ). IsAddress (length c.args.words.now) p.0) c.args.pairs.now c.requires.homes)
