use Rattle.std.proofs.Common.{ℕ, refl, sym, subst}
use Rattle.std.proofs.lemmas.Result.{IfOk-weaker}
use Rattle.tr_types.specs.declared.action.Action.{Action}
use Rattle.tr_types.specs.declared.action.Action.TheVariants.{Store, Cas, Flush, Fence, Pkru}
use Rattle.tr_types.specs.declared.action.Answer.{Answer}
use Rattle.tr_types.specs.declared.action.Answer.TheVariants.{Done}
use Rattle.bus_machine.specs.Steps.{Does}
use Rattle.bus_machine.proofs.bus.Bus.act.Goals as goal

pub returns-in-Store : goal.returns-in-Store
returns-in-Store c =
    IfOk-weaker c.store.result (λ (answer : Answer). (now : ℕ) → Does c.args.self.now c.store.new.self c.args.thread now (Store c.in-Store.addr c.in-Store.word) answer)
    (λ (answer : Answer). Does c.args.self.now c.store.new.self c.args.thread c.args.now c.args.action.now answer)
    (λ answer does. subst (λ (a : Action). Does c.args.self.now c.store.new.self c.args.thread c.args.now a answer) (sym c.in-Store.is) (does c.args.now))
    c.store.ensures

pub returns-in-Cas : goal.returns-in-Cas
returns-in-Cas c =
    IfOk-weaker c.exchange.result (λ (answer : Answer). (now : ℕ) → Does c.args.self.now c.exchange.new.self c.args.thread now (Cas c.in-Cas.addr c.in-Cas.old c.in-Cas.new) answer)
    (λ (answer : Answer). Does c.args.self.now c.exchange.new.self c.args.thread c.args.now c.args.action.now answer)
    (λ answer does. subst (λ (a : Action). Does c.args.self.now c.exchange.new.self c.args.thread c.args.now a answer) (sym c.in-Cas.is) (does c.args.now))
    c.exchange.ensures

pub returns-in-Flush : goal.returns-in-Flush
returns-in-Flush c =
    IfOk-weaker c.flush.result (λ (answer : Answer). (now : ℕ) → Does c.args.self.now c.flush.new.self c.args.thread now (Flush c.in-Flush.addr) answer)
    (λ (answer : Answer). Does c.args.self.now c.flush.new.self c.args.thread c.args.now c.args.action.now answer)
    (λ answer does. subst (λ (a : Action). Does c.args.self.now c.flush.new.self c.args.thread c.args.now a answer) (sym c.in-Flush.is) (does c.args.now))
    c.flush.ensures

pub returns-in-Fence : goal.returns-in-Fence
returns-in-Fence c =
    subst (λ (a : Action). Does c.args.self.now c.fence.new.self c.args.thread c.args.now a Done) (sym c.in-Fence.is) (record { answers = refl; after = c.fence.ensures c.args.now })

pub returns-in-Pkru : goal.returns-in-Pkru
returns-in-Pkru c =
    subst (λ (a : Action). Does c.args.self.now c.set_pkru.new.self c.args.thread c.args.now a Done) (sym c.in-Pkru.is) (record { answers = refl; after = c.set_pkru.ensures c.args.now })
