use Rattle.std.proofs.Common.{◌≡◌, ap, ◌∙◌}
use Rattle.zo_lease.specs.declared.pop.Pop.{Pop}
use Rattle.zo_lease.specs.Steps.{heard}
use Rattle.zo_lease.proofs.Stays.{pop_stays}
use Rattle.zo_calls.proofs.op.OpRun.pop.Goals as goal

pub pop_by-requires-clause-pops : goal.pop_by-requires-clause-pops
pop_by-requires-clause-pops c =
    let same = pop_stays c.args.popping.pop (heard c.args.answer.now) c.args.now in
    record {
      lease = ap (λ (x : Pop). x.lease.addr) c.next.ensures.goes ∙ ap (λ (x : _). x.addr) same.lease ∙ c.requires.pops.lease;
      bidder = ap (λ (x : Pop). x.bidder.thread) c.next.ensures.goes ∙ ap (λ (x : _). x.thread) same.bidder ∙ c.requires.pops.bidder;
    }
