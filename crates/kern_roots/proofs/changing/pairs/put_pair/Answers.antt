use Rattle.std.proofs.Common.{◌∙◌, ℕ, List, insert, ap, nat_lt}
use Rattle.std.specs.List.{position_or_len}
use Rattle.kern_roots.proofs.ChangingPairs.{with_pair_is}
use Rattle.kern_roots.proofs.changing.pairs.put_pair.Goals as goal

pub returns : goal.returns
returns c =
    c.in_ok-insert.ensures.items
    ∙ ap (λ (k : ℕ). insert c.args.pairs.now.items k c.args.pair) (c.place_of-place.ensures.place ∙ ap (λ (ps : List (ℕ × ℕ)). position_or_len (λ q. nat_lt c.args.pair.0 q.0) ps) c.deref.ensures.value)
    ∙ with_pair_is c.args.pair c.args.pairs.now.items
