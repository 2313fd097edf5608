use Rattle.std.proofs.Common.{ℕ, sym, ap, ◌∙◌, subst}
use Rattle.zo_layout.specs.Layout.{coffer_entry}
use Rattle.kern_model.specs.KernelRules as rules
use Rattle.kern_model.specs.KernelRules.{FailsFirst}
use Rattle.kern_view.proofs.FaultLemmas.{entry_first}
use Rattle.kern_view.proofs.tables.Tables.fault.Goals as goal

pub returns-in-Some-first_bad_entry : goal.returns-in-Some-first_bad_entry
returns-in-Some-first_bad_entry c =
    let words = c.args.self.now in
    let id = c.in-Some-first_bad_entry.id in
    subst (FailsFirst words rules.Tables) (sym (c.coffer_entry.ensures ∙ ap (λ (pages : ℕ). coffer_entry pages id) c.pages-pages.ensures.pages))
    (entry_first words id c.in_default.ensures c.in-Some-first_bad_entry.ensures)
