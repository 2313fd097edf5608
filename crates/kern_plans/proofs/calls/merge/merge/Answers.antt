use Rattle.std.proofs.Common.{◌≡◌, ◌∙◌, ℕ, List, None, length, refl, ap, subst, arith}
use Rattle.kern_model.specs.KernelView.{pages_of}
use Rattle.kern_model.specs.Journal.{kernel_word}
use Rattle.kern_model.specs.Kernel.{coffer_pages}
use Rattle.kern_model.specs.PathMap.{dropped_pairs}
use Rattle.kern_model.specs.KernelCalls.{first_due, merge_row, unlisted}
use Rattle.kern_plans.specs.declared.linking.Linking.{Linking}
use Rattle.kern_plans.specs.Links.{link_of, guard_of}
use Rattle.kern_plans.specs.Stored.{merged_pairs}
use Rattle.kern_plans.proofs.calls.merge.merge.Goals as goal

pub returns-in-Ok : goal.returns-in-Ok
returns-in-Ok c = λ callers cred.
    let asked = c.args.asked.now in
    let words = c.args.asked.now.words in
    record {
      due =
          subst (λ (pages : List ℕ). first_due (merge_row callers asked.words asked.holders asked.thread asked.tick c.args.child c.args.parent pages c.args.link c.args.guard).refusals ≡ None) c.as_slice-pages.ensures
          (subst (λ (l : Linking). first_due (merge_row callers asked.words asked.holders asked.thread asked.tick c.args.child c.args.parent c.as_slice-pages.result.now (link_of l.link) (guard_of l.guard)).refusals ≡ None)
          c.new-linking.ensures (c.in_ok-check_merge.ensures.refused callers cred));
      answer = refl;
      granted = c.new.ensures.items;
      pairs =
          let stored = λ (pages : List ℕ) (l : Linking).
          merged_pairs words c.args.parent pages (unlisted pages (coffer_pages words c.args.child)) (dropped_pairs (pages_of words) (kernel_word words) c.args.child) (link_of l.link) in
          ◌∙◌ {b = stored c.as_slice-pages.result.now c.new-linking.result} c.in-Ok.ensures
          (ap (λ (pages : List ℕ). stored pages c.new-linking.result) c.as_slice-pages.ensures ∙ ap (stored c.args.pages.now) c.new-linking.ensures);
      few = let none = ap (λ (xs : List ℕ). length xs) c.new.ensures.items in omega arith;
    }
