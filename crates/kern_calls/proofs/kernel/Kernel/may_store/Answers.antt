use Rattle.std.proofs.Common.{◌∙◌, ap}
use Rattle.kern_model.specs.Rights.{store_fault}
use Rattle.kern_calls.proofs.PartLemmas.{same_store, owner_told, past_told, nobodys_store}
use Rattle.kern_calls.proofs.kernel.Kernel.may_store.Goals as goal

-- the tables have the page under its coffer, and the kernel knows whose it is
pub returns-clause-inside : goal.returns-clause-inside
returns-clause-inside c =
    let tables = c.self.inside.tables in
    let same = same_store tables.threads tables.holders c.args.thread c.args.pkru.0 c.may_store.ensures.sound.rows _ _ (c.self.invariant.stands c.args.page) in
    rw (← c.self.view_is) (λ words mounted lt. c.may_store.ensures.fault ∙ same ∙ ap (store_fault tables.threads tables.holders c.args.thread c.args.pkru.0) (owner_told _ words c.args.page mounted lt))

pub returns-clause-outside : goal.returns-clause-outside
returns-clause-outside c =
    let tables = c.self.inside.tables in
    let same = same_store tables.threads tables.holders c.args.thread c.args.pkru.0 c.may_store.ensures.sound.rows _ _ (c.self.invariant.stands c.args.page) in
    rw (← c.self.view_is) (λ words mounted past. c.may_store.ensures.fault ∙ same ∙ nobodys_store tables.threads tables.holders c.args.thread c.args.pkru.0 c.may_store.ensures.sound.rows _ (past_told _ words c.args.page mounted past))
