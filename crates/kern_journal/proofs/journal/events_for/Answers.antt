use Rattle.std.proofs.Common.{rules, ◌≡◌, ◌≤◌, ◌/◌, length, arith, All}
use Rattle.std.proofs.lemmas.Result.{IfOk-weaker}
use Rattle.std.proofs.lemmas.List.Elements.{All-same}
use Rattle.zo_layout.specs.Layout.{pair_capacity}
use Rattle.kern_model.specs.Inner.{HasAddress}
use Rattle.kern_model.specs.Inner.{journal_events}
use Rattle.kern_model.proofs.EventLemmas.{journal_has}
use Rattle.kern_journal.proofs.journal.events_for.Goals as goal

pub returns-clause-inside : goal.returns-clause-inside
returns-clause-inside c =
    let count = length c.args.words.now in
    let at = c.capacity.ensures.capacity in
    let room : length c.args.pairs.now ≤ pair_capacity (count / 512) = omega (arith, at) in
    IfOk-weaker c.map_err.result (λ events. events.items ≡ journal_events c.args.pairs.now) (λ events. All (HasAddress count) events.items)
    (λ events is. All-same (HasAddress count) events.items (journal_events c.args.pairs.now) is (journal_has count c.args.pairs.now c.capacity.ensures.size room c.requires))
    (search rules)
