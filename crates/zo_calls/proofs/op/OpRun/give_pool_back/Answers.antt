use Rattle.std.proofs.Common.{◌≡◌, ap, ◌∙◌}
use Rattle.zo_lease.specs.declared.give_back.GiveBack.{GiveBack}
use Rattle.zo_lease.specs.Steps.{heard}
use Rattle.zo_lease.proofs.Stays.{give_stays}
use Rattle.zo_calls.specs.Stages.{GivesPool}
use Rattle.zo_calls.proofs.Ends.{settles_at}
use Rattle.zo_calls.proofs.op.OpRun.give_pool_back.Goals as goal

pub returns-in-Act-clause-settles : goal.returns-in-Act-clause-settles
returns-in-Act-clause-settles c =
    let gift = ap (λ (x : GiveBack). x.gift) c.next.ensures.goes ∙ give_stays c.args.giving.give (heard c.args.answer.now) c.args.now in
    let kept : GivesPool c.args.self.now.caller c.next.new.self = record {
      lease = ap (λ (x : _). x.addr) gift ∙ c.requires.gives.lease;
      look = ap (λ (x : _). x.look) gift ∙ c.requires.gives.look;
      put = ap (λ (x : _). x.put) gift ∙ c.requires.gives.put;
    } in
    settles_at c.go_changing.new.self c.args.self.now.caller _ c.go_changing.result c.in-Act.action c.in-Act.mark c.go_changing.ensures.same.caller c.go_changing.ensures.stage c.go_changing.ensures.step kept
