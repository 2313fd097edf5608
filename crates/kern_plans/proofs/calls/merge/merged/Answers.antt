use Rattle.std.proofs.Common.{◌<◌, ◌∙◌, ℕ, List, not, nat_eq, sym, ap, subst}
use Rattle.std.specs.Prelude.{All}
use Rattle.std.specs.List.{list_any}
use Rattle.std.proofs.lemmas.List.Elements.{All-same, All-filter}
use Rattle.pm_words.specs.Word.{Word}
use Rattle.kern_model.specs.KernelView.{pages_of}
use Rattle.kern_model.specs.Journal.{kernel_word}
use Rattle.kern_model.specs.Kernel.{coffer_pages}
use Rattle.kern_model.specs.PathMap.{dropped_pairs}
use Rattle.kern_model.specs.KernelCalls.{unlisted}
use Rattle.kern_plans.specs.Links.{link_of}
use Rattle.kern_plans.specs.Stored.{merged_pairs}
use Rattle.kern_plans.proofs.GiveLemmas.{owned_inside}
use Rattle.kern_plans.proofs.MoveLemmas.{used_most}
use Rattle.kern_plans.proofs.calls.merge.merged.Goals as goal

pub pages_of-requires : goal.pages_of-requires
pages_of-requires c = used_most (pages_of c.words-words.result.now) (kernel_word c.words-words.result.now) c.args.child c.in_ok-dropped.ensures.0

pub merged_pairs-requires-clause-others : goal.merged_pairs-requires-clause-others
merged_pairs-requires-clause-others c =
    let words = c.args.asked.now.words in
    let rest = c.deref-2.ensures.value ∙ c.in_ok-others.ensures ∙ ap (unlisted c.args.pages.now) (c.deref.ensures.value ∙ c.in_ok-owned.ensures) in
    subst (λ (ws : List Word). All (λ page. page < pages_of ws) c.deref-2.result.now) (sym c.words-words.ensures.words)
    (All-same (λ (page : ℕ). page < pages_of c.args.asked.now.words) _ _ rest
    (All-filter (λ page. not (list_any (λ p. nat_eq p page) c.args.pages.now)) (λ (page : ℕ). page < pages_of c.args.asked.now.words) (coffer_pages words c.args.child) (owned_inside words c.args.child)))

pub returns : goal.returns
returns c =
    let words = c.args.asked.now.words in
    let rest = c.deref-2.ensures.value ∙ c.in_ok-others.ensures ∙ ap (unlisted c.args.pages.now) (c.deref.ensures.value ∙ c.in_ok-owned.ensures) in
    let entry =
    c.as_slice.ensures ∙ c.in_ok-dropped.ensures.1
    ∙ ap (λ (ws : List Word). dropped_pairs (pages_of ws) (kernel_word ws) c.args.child) c.words-words.ensures.words in
    c.in_ok-merged_pairs.ensures
    ∙ ap (λ (ws : List Word). merged_pairs ws c.args.parent c.args.pages.now c.deref-2.result.now c.as_slice.result.now (link_of c.args.link)) c.words-words.ensures.words
    ∙ ap (λ (xs : List ℕ). merged_pairs words c.args.parent c.args.pages.now xs c.as_slice.result.now (link_of c.args.link)) rest
    ∙ ap (λ (ps : List (ℕ × ℕ)). merged_pairs words c.args.parent c.args.pages.now (unlisted c.args.pages.now (coffer_pages words c.args.child)) ps (link_of c.args.link)) entry
