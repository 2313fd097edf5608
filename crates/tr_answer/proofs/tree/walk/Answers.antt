use Rattle.std.proofs.Common.{Some, None, ap, sym, ◌∙◌}
use Rattle.zo_model.specs.Tree.{Directory, FileOf}
use Rattle.tr_answer.specs.declared.tree.Node.{Node as HeldNode}
use Rattle.tr_answer.specs.Nodes.{node_of}
use Rattle.tr_answer.proofs.Walks.{walk_here}
use Rattle.tr_answer.proofs.tree.walk.Goals as goal

pub returns-in-Some-File : goal.returns-in-Some-File
returns-in-Some-File c =
    let here = sym (ap (λ (n : HeldNode). Some (node_of n)) c.in-Some-File.field-0-is) ∙ c.in-Some-File.ensures in
    sym (walk_here c.args.members.now c.args.names.now c.loop-i.i (Some (FileOf c.in-Some-File.field-0-0)) c.loop-i-test.true here) ∙ c.loop-i.invariant

pub returns-in-None : goal.returns-in-None
returns-in-None c = sym (walk_here c.args.members.now c.args.names.now c.loop-i.i None c.loop-i-test.true c.in-None.ensures) ∙ c.loop-i.invariant

pub loop-i-preserved : goal.loop-i-preserved
loop-i-preserved c =
    let here = sym (ap (λ (n : HeldNode). Some (node_of n)) c.in-Some-Directory.field-0-is) ∙ c.in-Some-Directory.ensures in
    sym (walk_here c.args.members.now c.args.names.now c.loop-i.i (Some Directory) c.loop-i-test.true here) ∙ c.loop-i.invariant
