use Rattle.std.proofs.Common.{sym, refl, ◌∙◌, arith}
use Rattle.zo_hash_dir.specs.declared.lookup.Asked.TheVariants as look
use Rattle.zo_hash_dir.specs.Looking.{aim_of}
use Rattle.zo_hash_dir.specs.Scene.{OfDirectory}
use Rattle.zo_hash_dir.proofs.Steps.{gives_load, free_read}
use Rattle.zo_hash_dir.proofs.lookup.Lookup.free.Goals as goal

pub returns-in-End-clause-gives : goal.returns-in-End-clause-gives
returns-in-End-clause-gives c s stands end make is =
    let a = aim_of c.args.self.now in
    gives_load c.ask.new.self a s (look.First c.args.end) c.ask.result c.ask.ensures.aim c.ask.ensures.asked c.ask.ensures.load stands
    (OfDirectory 4 (omega arith) refl) (end, make, sym is ∙ c.in-End.ensures, refl)

pub returns-in-To-clause-gives : goal.returns-in-To-clause-gives
returns-in-To-clause-gives c s stands end make is =
    let a = aim_of c.args.self.now in
    let free = c.in-To.free in
    let leads = c.in-To.ensures.0 ∙ is in
    gives_load c.ask-in-To.new.self a s (look.FreeNext c.args.end free) c.ask-in-To.result c.ask-in-To.ensures.aim c.ask-in-To.ensures.asked c.ask-in-To.ensures.load stands
    (free_read a s free.at leads free.some (stands.make make)) (end, make, leads, refl)
