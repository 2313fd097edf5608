use Rattle.std.proofs.Common.{◌≢◌, length, ap, sym, refl, ◌∙◌}
use Rattle.zo_hash_dir.specs.declared.lookup.Asked.TheVariants as look
use Rattle.zo_hash_dir.specs.Looking.{aim_of}
use Rattle.zo_hash_dir.proofs.Steps.{gives_load, next_read, other_length}
use Rattle.zo_hash_dir.proofs.lookup.Lookup.measure.Goals as goal

pub returns-else-len-as_bytes-clause-gives : goal.returns-else-len-as_bytes-clause-gives
returns-else-len-as_bytes-clause-gives c s stands visit is =
    let a = aim_of c.args.self.now in
    let ne : c.args.len ≢ length a.name = λ e. c.if-len-as_bytes.false (e ∙ ap length (sym c.as_bytes.ensures)) in
    gives_load c.ask.new.self a s (look.Next c.args.visit) c.ask.result c.ask.ensures.aim c.ask.ensures.asked c.ask.ensures.load stands
    (next_read a s c.args.visit visit) (visit, other_length a s c.args.visit c.args.len is ne, refl)
