use Rattle.std.proofs.Common.{◌≤◌, ◌∙◌, length, arith}
use Rattle.kern_pages.specs.Owners.{TellsOwners}
use Rattle.kern_calls.proofs.FollowLemmas.{knows_more, knows_all}
use Rattle.kern_calls.proofs.kernel.Kernel.follow.Goals as goal

pub loop-addr-preserved : goal.loop-addr-preserved
loop-addr-preserved c =
    let at = c.loop-addr in
    let step = c.in_ok-follow_word.ensures in
    record {
      callers = step.callers ∙ at.invariant.callers;
      holders = step.holders ∙ at.invariant.holders;
      known = knows_more c.args.words.now c.args.pairs.now at.addr-index _ at.self c.follow_word.new.self c.requires.sound c.loop-addr-test.true at.invariant.known step;
    }

pub returns : goal.returns
returns c =
    let at = c.loop-addr in
    let told : TellsOwners c.args.words.now = c.owners_law.ensures c.args.words.now in
    let past : length c.args.pairs.now ≤ at.addr-index = omega arith in
    let owners = knows_all c.args.words.now c.args.pairs.now at.addr-index at.self.owners told past at.invariant.known in
    λ i. record { callers = at.invariant.callers i; holders = at.invariant.holders i; owners = owners i }
