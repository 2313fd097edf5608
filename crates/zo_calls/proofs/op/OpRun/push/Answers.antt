use Rattle.std.proofs.Common.{◌≡◌, ap, ◌∙◌}
use Rattle.zo_lease.specs.declared.push.Push.{Push}
use Rattle.zo_lease.specs.Steps.{heard}
use Rattle.zo_lease.proofs.Stays.{push_stays}
use Rattle.zo_calls.proofs.op.OpRun.push.Goals as goal

pub push_by-requires-clause-pushes : goal.push_by-requires-clause-pushes
push_by-requires-clause-pushes c =
    let same = push_stays c.args.pushing.push (heard c.args.answer.now) c.args.now in
    record {
      lease = ap (λ (x : Push). x.lease.addr) c.next.ensures.goes ∙ ap (λ (x : _). x.addr) same.lease ∙ c.requires.pushes.lease;
      bidder = ap (λ (x : Push). x.bidder.thread) c.next.ensures.goes ∙ ap (λ (x : _). x.thread) same.bidder ∙ c.requires.pushes.bidder;
    }
