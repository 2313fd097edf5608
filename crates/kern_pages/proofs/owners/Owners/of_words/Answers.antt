use Rattle.std.proofs.Common.{◌≡◌, ◌∙◌, ℕ, List, [], ◌∷◌, ◌++◌, length, map, sym, ap, subst₂, arith}
use Rattle.std.specs.List.{range_with_len}
use Rattle.std.proofs.lemmas.List.FromFn.{length-map-range_with_len, map-range_with_len_more}
use Rattle.kern_model.specs.Kernel.{kernel_owner}
use Rattle.kern_pages.specs.Sets.{AreSetsOf}
use Rattle.kern_pages.proofs.SetsLemmas.{kernels_listed, others_listed}
use Rattle.kern_pages.proofs.owners.Owners.of_words.Goals as goal
use Rattle.kern_pages.proofs.owners.Owners.of_words.Goals.{then-whose-le-LAST_COFFER+in_ok-insert, else-whose-le-LAST_COFFER}

pub loop-page-preserved : goal.loop-page-preserved
loop-page-preserved c =
    let pushed = c.in_ok-push.ensures.items in
    let listed =
    pushed
    ∙ ap (λ (xs : List ℕ). xs ++ c.owner-whose.result ∷ []) c.loop-page.invariant.owners
    ∙ ap (λ (o : ℕ). map (kernel_owner c.args.words.now) (range_with_len 0 c.loop-page.page) ++ o ∷ []) c.owner-whose.ensures
    ∙ sym (map-range_with_len_more (kernel_owner c.args.words.now) 0 c.loop-page.page c.loop-page.page (omega arith)) in
    let size : length c.loop-page.owners.items ≡ c.loop-page.page = ap (λ (xs : List ℕ). length xs) c.loop-page.invariant.owners ∙ length-map-range_with_len (kernel_owner c.args.words.now) 0 c.loop-page.page in
    record {
      owners = listed;
      sets = elim c.if-whose-le-LAST_COFFER.branch [
        | then-whose-le-LAST_COFFER+in_ok-insert w ↦
            subst₂ (λ (owners : List ℕ) (sets : List (List ℕ)). AreSetsOf owners sets) (sym pushed) (sym w.sets-is)
            (others_listed c.loop-page.owners.items c.loop-page.sets w.insert.new.self c.owner-whose.result c.loop-page.page c.loop-page.invariant.sets w.if-whose-le-LAST_COFFER.true (sym size) w.in_ok-insert.ensures.ok)
        | else-whose-le-LAST_COFFER w ↦
            let most = w.if-whose-le-LAST_COFFER.false in
            subst₂ (λ (owners : List ℕ) (sets : List (List ℕ)). AreSetsOf owners sets) (sym pushed) (sym w.sets-is)
            (kernels_listed c.loop-page.owners.items c.loop-page.sets c.owner-whose.result c.loop-page.invariant.sets (omega arith))
      ];
    }

pub invariant_of-result : goal.invariant_of-result
invariant_of-result c =
    let count = ap (λ (xs : List ℕ). length xs) c.loop-page.invariant.owners ∙ length-map-range_with_len (kernel_owner c.args.words.now) 0 c.loop-page.page in
    let size = c.pages-page-end.ensures.size.most in
    let whole = c.pages-page-end.ensures.pages in
    let end = c.loop-page.auto.page-end in
    (omega arith, c.loop-page.invariant.sets)
