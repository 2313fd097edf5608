use Rattle.std.proofs.Common.{refl}
use Rattle.zo_hash_dir.specs.declared.list.Asked.TheVariants as list
use Rattle.zo_hash_dir.specs.Counting.{at_of}
use Rattle.zo_hash_dir.proofs.Walking.{head_read}
use Rattle.zo_hash_dir.proofs.Counting.{gives_load, knows_asked}
use Rattle.zo_hash_dir.proofs.list.ListRun.next.Goals as goal

pub returns-in-Nothing-clause-gives : goal.returns-in-Nothing-clause-gives
returns-in-Nothing-clause-gives c s k =
    let a = at_of c.args.self.now in
    let first = c.args.answer.now in
    let counts = knows_asked c.args.self.now.asked list.Nothing a s first first c.in-Nothing.is refl k in
    gives_load c.ask.new.self a s list.Head c.ask.result c.ask.ensures.at c.ask.ensures.asked c.ask.ensures.load (λ e. cc) (head_read s a.dir a.bucket counts.low) counts
