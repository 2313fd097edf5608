use Rattle.std.proofs.Common.{◌≡◌, ℕ, ap, sym, refl, subst, ◌∙◌}
use Rattle.tr_types.specs.declared.action.Answer.TheVariants.{Word}
use Rattle.zo_hash_dir.specs.declared.lookup.Asked.TheVariants as look
use Rattle.zo_hash_dir.specs.Looking.{aim_of, LeadsAstray, TellsDamage, Walks}
use Rattle.zo_hash_dir.proofs.Walking.{visits_pass}
use Rattle.zo_hash_dir.proofs.Steps.{knows_asked}
use Rattle.zo_hash_dir.proofs.Damage.{tells_asked}
use Rattle.zo_hash_dir.proofs.lookup.Lookup.go_on.Goals as goal

pub returns-in-Next-clause-gives : goal.returns-in-Next-clause-gives
returns-in-Next-clause-gives c s stands k =
    let a = aim_of c.args.self.now in
    let v = c.in-Next.visit in
    let f = knows_asked c.args.self.now.asked (look.Next v) a s (Word c.args.word) (Word c.args.word) c.in-Next.is refl k in
    let walks = visits_pass s a.dir a.name a.visits v.before v.entry.at f.0.visits f.1 in
    c.follow-in-Next.ensures.gives s stands (subst (Walks s a.dir a.name a.visits) (sym c.next_entry.ensures) walks) f.0.head
    (f.2 ∙ ap s.at (sym c.next_entry.ensures))

pub returns-in-Next-clause-damaged : goal.returns-in-Next-clause-damaged
returns-in-Next-clause-damaged c =
    let a = aim_of c.args.self.now in
    let tells = subst (λ (before : ℕ). TellsDamage c.follow-in-Next.result (λ addr. LeadsAstray a.visits c.args.word × (addr ≡ before))) c.next_entry.ensures c.follow-in-Next.ensures.damaged in
    tells_asked c.follow-in-Next.result (look.Next c.in-Next.visit) c.args.self.now.asked a.visits c.args.word a.dir a.name c.in-Next.is tells

pub returns-in-Free-clause-damaged : goal.returns-in-Free-clause-damaged
returns-in-Free-clause-damaged c =
    let a = aim_of c.args.self.now in
    tells_asked c.free.result (look.Free c.in-Free.end) c.args.self.now.asked a.visits c.args.word a.dir a.name c.in-Free.is c.free.ensures.damaged

pub returns-in-FreeNext-clause-damaged : goal.returns-in-FreeNext-clause-damaged
returns-in-FreeNext-clause-damaged c =
    let a = aim_of c.args.self.now in
    tells_asked c.free_next.result (look.FreeNext c.in-FreeNext.end c.in-FreeNext.free) c.args.self.now.asked a.visits c.args.word a.dir a.name c.in-FreeNext.is c.free_next.ensures.damaged
