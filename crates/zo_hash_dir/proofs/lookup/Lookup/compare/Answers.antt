use Rattle.std.proofs.Common.{◌≡◌, ℕ, ◌+◌, ◌*◌, sym, refl, subst, arith}
use Rattle.zo_hash_dir.specs.declared.lookup.Asked.TheVariants as look
use Rattle.zo_hash_dir.specs.Looking.{aim_of}
use Rattle.zo_hash_dir.specs.Looking.{Agrees}
use Rattle.zo_hash_dir.proofs.Names.{agrees_more}
use Rattle.zo_hash_dir.proofs.Steps.{gives_load, next_read, other_letters, word_few}
use Rattle.zo_hash_dir.proofs.lookup.Lookup.compare.Goals as goal
use Rattle.zo_hash_dir.proofs.lookup.Lookup.compare.Goals.{in_default-via-in-Some+else-has_letters, in_default-via-in_default}

pub returns-in-Some-clause-gives : goal.returns-in-Some-clause-gives
returns-in-Some-clause-gives c s stands visit agrees low is =
    let a = aim_of c.args.self.now in
    let entry = c.args.visit.entry.at in
    let next : c.in-Some.next ≡ c.args.i + 1 = omega (arith, c.in-Some.ensures) in
    let same = (c.has_letters.ensures.0 c.if-has_letters.true).1 in
    let more = agrees_more s.at a.name entry c.args.i c.args.word agrees is same in
    c.letters.ensures.gives s stands visit (subst (λ (n : ℕ). Agrees s.at a.name entry (8 * n)) (sym next) more)

pub returns-in_default-clause-gives : goal.returns-in_default-clause-gives
returns-in_default-clause-gives c s stands visit agrees low is =
    let a = aim_of c.args.self.now in
    gives_load c.ask.new.self a s (look.Next c.args.visit) c.ask.result c.ask.ensures.aim c.ask.ensures.asked c.ask.ensures.load stands
    (next_read a s c.args.visit visit) (
      visit,
      (λ named. elim c.in_default.branch [
        | in_default-via-in-Some+else-has_letters v ↦
            other_letters a s c.args.visit c.args.i c.args.word v.has_letters.result is low v.has_letters.ensures.1 v.if-has_letters.false named
        | in_default-via-in_default v ↦ let none = v.in_default.ensures in omega (arith, none, word_few a s c.args.visit c.args.i visit agrees.len low)
      ]),
      refl,
    )
