use Rattle.std.proofs.Common.{ℕ, ◌*◌, sym, subst}
use Rattle.zo_hash_dir.specs.Looking.{bucket_at, Walks}
use Rattle.zo_hash_dir.proofs.Walking.{walks_first}
use Rattle.zo_hash_dir.proofs.lookup.Lookup.begin.Goals as goal

pub returns-clause-begins : goal.returns-clause-begins
returns-clause-begins c s first shown =
    let name = c.args.name in
    record {
      stands = record { target = λ target is. shown.targets name target is; make = λ making. absurd (cc) };
      at = subst (λ (n : ℕ). Walks s c.args.dir.at name (12 * n) (bucket_at c.args.dir.at name)) (sym c.from.ensures)
          (walks_first s c.args.dir.at c.args.pages name shown);
    }
