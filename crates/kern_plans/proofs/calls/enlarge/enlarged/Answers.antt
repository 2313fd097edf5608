use Rattle.std.proofs.Common.{◌<◌, ◌∙◌, ℕ, List, sym, subst}
use Rattle.std.specs.Prelude.{All}
use Rattle.std.proofs.lemmas.List.Elements.{All-same}
use Rattle.pm_words.specs.Word.{Word}
use Rattle.kern_model.specs.KernelView.{pages_of}
use Rattle.kern_plans.proofs.GiveLemmas.{spare_inside}
use Rattle.kern_plans.proofs.calls.enlarge.enlarged.Goals as goal

pub pass_pages-requires : goal.pass_pages-requires
pass_pages-requires c =
    subst (λ (words : List Word). All (λ page. page < pages_of words) c.deref.result.now) (sym c.words.ensures.words)
    (All-same (λ (page : ℕ). page < pages_of c.args.asked.now.words) _ _ (c.deref.ensures.value ∙ c.in_ok-granted.ensures) (spare_inside c.args.asked.now.words c.args.count))
