use Rattle.std.proofs.Common.{◌∙◌, ℕ, not, get_or, sym, ap, arith}
use Rattle.std.specs.Prelude.{◌||◌, nat_lt, nat_eq}
use Rattle.std.specs.List.{list_any}
use Rattle.kern_model.specs.KernelCalls as calls
use Rattle.kern_plans.proofs.CheckLemmas.{found_here, found_later}
use Rattle.kern_plans.proofs.checks.first_bad_page.Goals as goal

pub returns-then-is_bad_page : goal.returns-then-is_bad_page
returns-then-is_bad_page c =
    let page = get_or c.args.pages.now c.loop-page.page-index 0 in
    let times = sym (c.count_of.ensures ∙ c.in_ok-counts.ensures page) in
    found_here (calls.is_bad_page c.args.asked.now.words c.args.id c.args.kept.now c.args.pages.now) c.args.pages.now c.loop-page.page-index (omega arith) c.loop-page.invariant
    (ap (λ (n : ℕ). not (calls.owns_page c.args.asked.now.words c.args.id page) || list_any (λ p. nat_eq p page) c.args.kept.now || nat_lt 1 n) times
    ∙ sym c.is_bad_page.ensures ∙ c.if-is_bad_page.true)

pub loop-page-preserved : goal.loop-page-preserved
loop-page-preserved c =
    let page = get_or c.args.pages.now c.loop-page.page-index 0 in
    let times = sym (c.count_of.ensures ∙ c.in_ok-counts.ensures page) in
    found_later (calls.is_bad_page c.args.asked.now.words c.args.id c.args.kept.now c.args.pages.now) c.args.pages.now c.loop-page.page-index (omega arith) c.loop-page.invariant
    (ap (λ (n : ℕ). not (calls.owns_page c.args.asked.now.words c.args.id page) || list_any (λ p. nat_eq p page) c.args.kept.now || nat_lt 1 n) times
    ∙ sym c.is_bad_page.ensures ∙ c.if-is_bad_page.false)
