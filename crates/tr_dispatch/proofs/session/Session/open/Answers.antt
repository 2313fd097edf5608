use Rattle.std.proofs.Common.{rules, ap, ◌∙◌}
use Rattle.kern_model.specs.Rights.{only_pkru}
use Rattle.tr_dispatch.proofs.Exits.{open_built, open_gives}
use Rattle.tr_dispatch.proofs.session.Session.open.Goals as goal

pub returns-clause-built : goal.returns-clause-built
returns-clause-built c = open_built c.writes.result c.in-Some.mapped.key c.only-pkru.result.0 (record { least = search rules; most = search rules }) c.only-pkru.ensures

pub returns-clause-gives : goal.returns-clause-gives
returns-clause-gives c =
    open_gives c.args.self.now.thread c.args.self.now.command c.args.answer.now c.in-Some.mapped c.in_ok-op.op c.only-pkru.result.0 c.in-Some.ensures
    c.in_ok-op.ensures.knows
    (c.only-pkru.ensures ∙ ap (only_pkru c.in-Some.mapped.key) c.writes.ensures)
