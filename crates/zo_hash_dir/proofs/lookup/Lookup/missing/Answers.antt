use Rattle.std.proofs.Common.{refl, arith}
use Rattle.zo_hash_dir.specs.declared.lookup.Asked.TheVariants as look
use Rattle.zo_hash_dir.specs.Looking.{aim_of}
use Rattle.zo_hash_dir.specs.Scene.{OfDirectory}
use Rattle.zo_hash_dir.proofs.Steps.{gives_load}
use Rattle.zo_hash_dir.proofs.lookup.Lookup.missing.Goals as goal

pub returns-in-Making-clause-gives : goal.returns-in-Making-clause-gives
returns-in-Making-clause-gives c s stands end =
    let a = aim_of c.args.self.now in
    gives_load c.ask.new.self a s (look.Free c.args.end) c.ask.result c.ask.ensures.aim c.ask.ensures.asked c.ask.ensures.load stands
    (OfDirectory 5 (omega arith) refl) (end, c.in-Making.is, refl)
