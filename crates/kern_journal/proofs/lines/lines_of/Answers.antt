use Rattle.std.proofs.Common.{List, ℕ, sym, subst, take}
use Rattle.kern_model.specs.Inner.{IsAscending}
use Rattle.kern_model.proofs.LineLemmas.{ascending_lines}
use Rattle.kern_journal.proofs.lines.lines_of.Goals as goal

pub add_line-requires : goal.add_line-requires
add_line-requires c = subst (λ (lines : List ℕ). IsAscending lines) (sym c.loop-addr.invariant) (ascending_lines (take c.loop-addr.addr-index c.args.pairs.now))
