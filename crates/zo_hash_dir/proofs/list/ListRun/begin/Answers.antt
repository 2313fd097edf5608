use Rattle.std.proofs.Common.{ℕ, ◌*◌, sym, subst}
use Rattle.zo_layout.specs.Layout.{bucket_head}
use Rattle.zo_hash_dir.specs.Counting.{Counts}
use Rattle.zo_hash_dir.proofs.Counting.{counts_begin}
use Rattle.zo_hash_dir.proofs.list.ListRun.begin.Goals as goal

pub returns-clause-begins : goal.returns-clause-begins
returns-clause-begins c s first shown =
    subst (λ (n : ℕ). Counts s c.args.dir.at (12 * n) 0 0 (bucket_head c.args.dir.at 0)) (sym c.from.ensures) (counts_begin s c.args.dir.at c.args.pages shown)
