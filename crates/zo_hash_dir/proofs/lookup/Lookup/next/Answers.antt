use Rattle.std.proofs.Common.{refl, arith}
use Rattle.tr_types.specs.declared.action.Answer.TheVariants.{Word}
use Rattle.zo_layout.specs.Layout.{bucket_of}
use Rattle.zo_hash_dir.specs.declared.lookup.Asked.TheVariants as look
use Rattle.zo_hash_dir.specs.Looking.{aim_of}
use Rattle.zo_hash_dir.proofs.Walking.{head_read}
use Rattle.zo_hash_dir.proofs.Steps.{gives_load, knows_asked}
use Rattle.zo_hash_dir.proofs.Damage.{tells_word}
use Rattle.zo_hash_dir.proofs.lookup.Lookup.next.Goals as goal

pub returns-in-Nothing-clause-gives : goal.returns-in-Nothing-clause-gives
returns-in-Nothing-clause-gives c s k =
    let a = aim_of c.args.self.now in
    let first = c.args.answer.now in
    let walks = knows_asked c.args.self.now.asked look.Nothing a s first first c.in-Nothing.is refl k.at in
    gives_load c.ask.new.self a s look.Head c.ask.result c.ask.ensures.aim c.ask.ensures.asked c.ask.ensures.load k.stands
    (head_read s a.dir (bucket_of a.name) (omega arith)) (walks, refl)

pub returns-in-Some-clause-first : goal.returns-in-Some-clause-first
returns-in-Some-clause-first c first = absurd (c.in_default.not-Nothing first)

pub returns-in-Some-clause-gives : goal.returns-in-Some-clause-gives
returns-in-Some-clause-gives c s k =
    let asked = c.args.self.now.asked in
    c.go_on.ensures.gives s k.stands (knows_asked asked asked (aim_of c.args.self.now) s c.args.answer.now (Word c.in-Some.word) refl c.in-Some.ensures k.at)

pub returns-in-Some-clause-damaged : goal.returns-in-Some-clause-damaged
returns-in-Some-clause-damaged c =
    let a = aim_of c.args.self.now in
    tells_word c.go_on.result c.args.self.now.asked c.args.answer.now c.in-Some.word a.visits a.dir a.name c.in_default.not-Nothing c.in-Some.ensures c.go_on.ensures.damaged
