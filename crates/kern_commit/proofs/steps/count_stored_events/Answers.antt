use Rattle.std.proofs.Common.{◌≡◌, List, length, ap, ◌∙◌, arith}
use Rattle.kern_model.specs.declared.inner.Inner.{Inner}
use Rattle.kern_model.specs.Inner.{journal_events}
use Rattle.kern_model.specs.KernelCalls.{in_order}
use Rattle.kern_commit.proofs.CountLemmas.{journal_length}
use Rattle.kern_commit.proofs.steps.count_stored_events.Goals as goal

pub overflow_cast-result : goal.overflow_cast-result
overflow_cast-result c =
    let ordered : c.deref.result.now ≡ in_order c.args.pairs.now = c.deref.ensures.value ∙ c.in_ok-in_order.ensures in
    let many : length c.in_ok-events.events.items ≡ length (journal_events (in_order c.args.pairs.now)) = ap (λ (es : List Inner). length es) (c.in_ok-events.ensures ∙ ap journal_events ordered) in
    let most = journal_length (in_order c.args.pairs.now) in
    let few = c.requires in
    let is = c.len.ensures in
    omega (arith, many, most, few, is)

pub returns-clause-few : goal.returns-clause-few
returns-clause-few c =
    let ordered : c.deref.result.now ≡ in_order c.args.pairs.now = c.deref.ensures.value ∙ c.in_ok-in_order.ensures in
    let many : length c.in_ok-events.events.items ≡ length (journal_events (in_order c.args.pairs.now)) = ap (λ (es : List Inner). length es) (c.in_ok-events.ensures ∙ ap journal_events ordered) in
    let most = journal_length (in_order c.args.pairs.now) in
    let few = c.requires in
    let is = c.len.ensures in
    omega (arith, many, most, few, is)
