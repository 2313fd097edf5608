use Rattle.std.proofs.Common.{◌∙◌, ℕ, List, slice_index, ap, arith}
use Rattle.pm_words.specs.Word.{Word}
use Rattle.kern_model.specs.KernelCalls as calls
use Rattle.kern_plans.proofs.CheckLemmas.{owned, owners_size}
use Rattle.kern_plans.proofs.checks.owns_page.Goals as goal

pub owner-requires : goal.owner-requires
owner-requires c =
    let size = owners_size c.asked.inside.words.now c.asked.inside.owners.now c.asked.invariant.told in
    let whole = c.pages.ensures.pages in
    let same = c.from.ensures in
    let below = c.if-from-page.false in
    omega arith

pub returns : goal.returns
returns c =
    let whole = c.pages.ensures.pages in
    let same = c.from.ensures in
    let below = c.if-from-page.false in
    owned c.asked.inside.words.now c.args.page c.args.id c.owner.result (omega arith)
    (c.owner.ensures ∙ ap (λ (xs : List ℕ). slice_index xs c.args.page) c.asked.invariant.told)
    ∙ ap (λ (words : List Word). calls.owns_page words c.args.id c.args.page) (ap (λ v. v.words) c.asked.view_is)
