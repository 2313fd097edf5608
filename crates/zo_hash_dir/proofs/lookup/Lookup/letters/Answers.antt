use Rattle.std.proofs.Common.{◌*◌, length, refl, arith}
use Rattle.zo_hash_dir.specs.declared.lookup.Asked.TheVariants as look
use Rattle.zo_hash_dir.specs.Looking.{aim_of}
use Rattle.zo_hash_dir.proofs.Names.{agrees_all}
use Rattle.zo_hash_dir.proofs.Steps.{gives_load, letters_read, visit_read, not_less}
use Rattle.zo_hash_dir.proofs.lookup.Lookup.letters.Goals as goal

pub returns-then-has_word-clause-gives : goal.returns-then-has_word-clause-gives
returns-then-has_word-clause-gives c s stands visit agrees =
    let a = aim_of c.args.self.now in
    let low = c.has_word.ensures.0 c.if-has_word.true in
    gives_load c.ask.new.self a s (look.Letters c.args.visit c.args.i) c.ask.result c.ask.ensures.aim c.ask.ensures.asked c.ask.ensures.load stands
    (letters_read a s c.args.visit c.args.i visit agrees.len low) (visit, agrees, low, refl)

pub returns-else-has_word-clause-gives : goal.returns-else-has_word-clause-gives
returns-else-has_word-clause-gives c s stands visit agrees =
    let a = aim_of c.args.self.now in
    let all = not_less (8 * c.args.i) (length a.name) c.has_word.result c.has_word.ensures.1 c.if-has_word.false in
    gives_load c.ask-else-has_word.new.self a s (look.Target c.args.visit) c.ask-else-has_word.result c.ask-else-has_word.ensures.aim c.ask-else-has_word.ensures.asked c.ask-else-has_word.ensures.load stands
    (visit_read a s c.args.visit 1 visit (omega arith)) (visit, agrees_all s.at a.name c.args.visit.entry.at (8 * c.args.i) agrees all, refl)
