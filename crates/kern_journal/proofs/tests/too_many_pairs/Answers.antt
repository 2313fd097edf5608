use Rattle.std.proofs.Common.{ℕ, sym, subst, All}
use Rattle.std.proofs.lemmas.List.Elements.{All-same}
use Rattle.pm_words.specs.Memory.{IsAddress}
use Rattle.kern_journal.proofs.tests.too_many_pairs.Goals as goal

pub apply-requires : goal.apply-requires
apply-requires g c =
    subst (λ (n : ℕ). All (λ (p : ℕ × ℕ). IsAddress n p.0) c.deref.result.now) (sym c.in_ok-words.ensures.len)
    (All-same (λ (p : ℕ × ℕ). IsAddress 32768 p.0) c.deref.result.now c.in_ok-pairs.pairs.items c.deref.ensures.value c.in_ok-pairs.ensures)
