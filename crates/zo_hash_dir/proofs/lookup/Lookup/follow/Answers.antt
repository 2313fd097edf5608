use Rattle.std.proofs.Common.{◌≡◌, ◌≢◌, ℕ, ◌+◌, ◌-◌, sym, refl, subst, ◌∙◌, arith}
use Rattle.zo_hash_dir.specs.declared.lookup.Asked.TheVariants as look
use Rattle.zo_hash_dir.specs.Looking.{Aim, aim_of}
use Rattle.zo_hash_dir.specs.Looking.{IsEnd, Visits, KnowsVisit}
use Rattle.zo_hash_dir.specs.declared.lookup.Visit.{Visit}
use Rattle.zo_hash_dir.proofs.Allowed.{entry_some}
use Rattle.zo_hash_dir.proofs.Walking.{walks_on, walks_end}
use Rattle.zo_hash_dir.proofs.Steps.{gives_load, visit_read, never_astray}
use Rattle.zo_hash_dir.proofs.lookup.Lookup.follow.Goals as goal

pub returns-in-End-clause-gives : goal.returns-in-End-clause-gives
returns-in-End-clause-gives c s stands w head is =
    let a = aim_of c.args.self.now in
    let end = walks_end s a.dir a.name a.visits c.args.before w (sym is ∙ c.in-End.ensures) in
    c.missing.ensures.gives s stands (subst (λ (h : ℕ). IsEnd s a.dir a.name h c.args.before) (sym head) end)

pub returns-in-To-clause-gives : goal.returns-in-To-clause-gives
returns-in-To-clause-gives c s stands w head is =
    let old = aim_of c.args.self.now in
    let entry = c.in-To.entry in
    let some : c.args.word ≢ 0 = omega (arith, entry_some c.args.word c.in-To.ensures.1) in
    let come = walks_on s old.dir old.name old.visits c.args.before c.args.word w is some in
    let rest = old.visits - 1 in
    let more : old.visits ≡ rest + 1 = omega (arith, come.some) in
    let visits = subst (Visits s old.dir old.name rest c.args.before) (sym c.in-To.ensures.0) (come.visit rest more) in
    let a : Aim = record { dir = old.dir; name = old.name; purpose = old.purpose; visits = rest } in
    let v : Visit = record { head = c.args.head; before = c.args.before; entry = entry } in
    let knows : KnowsVisit a s v = record { head = head; visits = visits } in
    gives_load c.ask.new.self a s (look.Length v) c.ask.result c.ask.ensures.aim c.ask.ensures.asked c.ask.ensures.load
    (record { target = stands.target; make = stands.make }) (visit_read a s v 2 knows (omega arith)) (knows, refl)

pub returns-in_default-clause-gives : goal.returns-in_default-clause-gives
returns-in_default-clause-gives c s stands w head is =
    let some : c.args.word ≢ 0 = omega (arith, entry_some c.args.word c.in-To.ensures.1) in
    let more = (never_astray (aim_of c.args.self.now) s c.args.before c.args.word w is some).0 in
    omega (arith, more, c.if-self-gt0.false)

pub returns-in_default-2-clause-gives : goal.returns-in_default-2-clause-gives
returns-in_default-2-clause-gives c s stands w head is = c.in_default.ensures.1 (never_astray (aim_of c.args.self.now) s c.args.before c.args.word w is c.in_default.ensures.0).1
