use Rattle.std.proofs.Common.{◌∙◌, ℕ, sym, ap}
use Rattle.kern_model.specs.KernelView.{pages_of}
use Rattle.kern_model.specs.Journal.{kernel_word}
use Rattle.kern_model.specs.PathMap.{added_pairs}
use Rattle.tr_types.specs.declared.kernel_call.KernAnswer.TheVariants.{Taken, TooMany}
use Rattle.kern_roots.specs.Changes.{new_coffer}
use Rattle.kern_plans.proofs.RowLemmas.{skips, lets_pass}
use Rattle.kern_plans.proofs.EntryLemmas.{next_is, next_is_some}
use Rattle.kern_plans.proofs.naming.new_entry.Goals as goal

pub returns-in-Ok-clause-refused : goal.returns-in-Ok-clause-refused
returns-in-Ok-clause-refused c =
    let words = c.args.words.now in
    skips _ _ (lets_pass _ Taken c.in-Ok.ensures.0) ∙ skips _ _ (lets_pass _ TooMany (next_is_some words c.in-Ok.made.0 c.in-Ok.ensures.1))

pub returns-in-Ok-clause-pairs : goal.returns-in-Ok-clause-pairs
returns-in-Ok-clause-pairs c =
    let words = c.args.words.now in
    c.in-Ok.ensures.2
    ∙ ap (λ (id : ℕ). added_pairs (pages_of words) (kernel_word words) (new_coffer id c.args.path.now c.args.root.now)) (sym (next_is words c.in-Ok.made.0 c.in-Ok.ensures.1))
