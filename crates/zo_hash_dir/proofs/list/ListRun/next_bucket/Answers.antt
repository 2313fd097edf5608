use Rattle.std.proofs.Common.{◌≡◌, suc, ◌+◌, ◌<◌, ap, ◌∙◌, arith}
use Rattle.zo_hash_dir.specs.declared.list.Asked.TheVariants as list
use Rattle.zo_hash_dir.specs.Counting.{At, at_of, names_below}
use Rattle.zo_hash_dir.proofs.Walking.{head_read}
use Rattle.zo_hash_dir.proofs.Counting.{counts_all, counts_first, gives_load}
use Rattle.zo_hash_dir.proofs.list.ListRun.next_bucket.Goals as goal

pub returns-then-self-clause-gives : goal.returns-then-self-clause-gives
returns-then-self-clause-gives c s k =
    let a = at_of c.args.self.now in
    counts_all s a.dir a.most a.bucket a.names k c.if-self.true

pub returns-clause-gives : goal.returns-clause-gives
returns-clause-gives c s k =
    let old = at_of c.args.self.now in
    let b = old.bucket + 1 in
    let low : b < 256 = omega (arith, c.if-self.false) in
    let is : suc old.bucket ≡ b = omega arith in
    let a : At = record { dir = old.dir; bucket = b; names = old.names; most = old.most } in
    let counts = counts_first s old.dir old.most b old.names k.chains low k.are (k.counted ∙ ap (names_below k.chains) is) in
    gives_load c.ask.new.self a s list.Head c.ask.result c.ask.ensures.at c.ask.ensures.asked c.ask.ensures.load (λ e. cc) (head_read s old.dir b low) counts
