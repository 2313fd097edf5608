use Rattle.std.proofs.Common.{◌≡◌, ◌∙◌, ℕ, List, [], ◌∷◌, ◌++◌, None, length, refl, ap, subst, arith}
use Rattle.kern_model.specs.KernelView.{pages_of}
use Rattle.kern_model.specs.Journal.{kernel_word}
use Rattle.kern_model.specs.Kernel.{coffer_pages}
use Rattle.kern_model.specs.PathMap.{dropped_pairs}
use Rattle.kern_model.specs.KernelCalls as calls
use Rattle.kern_model.specs.KernelCalls.{first_due}
use Rattle.tr_types.specs.declared.kernel_call.KernAnswer.{KernAnswer}
use Rattle.kern_plans.specs.declared.linking.Linking.{Linking}
use Rattle.kern_plans.specs.Links.{link_of, guard_of}
use Rattle.kern_plans.proofs.CheckLemmas.{mapped_ok}
use Rattle.kern_plans.proofs.NamedLemmas.{goes_so}
use Rattle.kern_plans.proofs.calls.delete.delete.Goals as goal

pub delete_pairs-requires : goal.delete_pairs-requires
delete_pairs-requires c =
    (goes_so c.words.result.now c.args.asked.now.words c.args.id c.in_ok-dropped.dropped c.drop_entry.result c.words.ensures.words
    (mapped_ok KernAnswer c.drop_entry.result c.in_ok-dropped.dropped _ c.in_ok-dropped.ensures.variant c.in_ok-dropped.ensures.cases) c.drop_entry.ensures).0

pub returns-in-Ok : goal.returns-in-Ok
returns-in-Ok c = λ callers has.
    let asked = c.args.asked.now in
    let words = asked.words in
    let gone = goes_so c.words.result.now words c.args.id c.in_ok-dropped.dropped c.drop_entry.result c.words.ensures.words
    (mapped_ok KernAnswer c.drop_entry.result c.in_ok-dropped.dropped _ c.in_ok-dropped.ensures.variant c.in_ok-dropped.ensures.cases) c.drop_entry.ensures in
    record {
      due =
          subst (λ (l : Linking). first_due (calls.delete_row callers words asked.holders asked.thread asked.tick c.args.id c.args.parent (link_of l.link) (guard_of l.guard)).refusals ≡ None) c.new-linking.ensures
          (c.in_ok-check_delete.ensures callers has);
      answer = refl;
      granted = c.new.ensures.items;
      pairs =
          c.in-Ok.ensures
          ∙ ap (λ (pairs : List (ℕ × ℕ)). calls.owner_pairs words 0 (coffer_pages words c.args.id) ++ (pairs ++ calls.link_pair (link_of c.new-linking.result.link) ∷ [])) (c.as_slice.ensures ∙ gone.1)
          ∙ ap (λ (l : Linking). calls.owner_pairs words 0 (coffer_pages words c.args.id) ++ (dropped_pairs (pages_of words) (kernel_word words) c.args.id ++ calls.link_pair (link_of l.link) ∷ [])) c.new-linking.ensures;
      few = let none = ap (λ (xs : List ℕ). length xs) c.new.ensures.items in omega arith;
    }
