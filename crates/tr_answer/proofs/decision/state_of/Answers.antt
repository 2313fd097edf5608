use Rattle.std.proofs.Common.{sym, ap, ◌∙◌, arith}
use Rattle.zo_model.specs.Answers.{Reaches}
use Rattle.zo_model.specs.Coffers.{Coffer}
use Rattle.zo_model.specs.Tree.{is_child}
use Rattle.tr_answer.specs.declared.tree.Node.{Node}
use Rattle.tr_answer.specs.Nodes.{node_of}
use Rattle.tr_answer.proofs.AnswerLemmas.{few_filtered, few_under, dir_state}
use Rattle.tr_answer.proofs.decision.state_of.Goals as goal

pub overflow_add-count : goal.overflow_add-count
overflow_add-count c =
    let few = few_filtered (is_child c.within-inner.result.now) c.args.tree.now in
    let few_coffers = few_under c.args.coffers.now c.args.names.now in
    omega (arith, c.count_children.ensures, c.coffers_under.ensures, few, few_coffers)

pub returns-in-Reaches-Directory : goal.returns-in-Reaches-Directory
returns-in-Reaches-Directory c =
    dir_state c.args.coffers.now c.args.coffer.now c.coffer.inside.perm c.args.tree.now c.args.names.now c.within-inner.result.now c.count_children.result c.coffers_under.result
    c.requires.inside (ap (λ (x : Coffer). x.perm) c.coffer.view_is) c.within-inner.ensures
    (sym (ap (λ (n : Node). Reaches (node_of n)) c.in-Reaches-Directory.field-0-is) ∙ c.in-Reaches-Directory.ensures)
    c.count_children.ensures c.coffers_under.ensures
