use Rattle.std.proofs.Common.{◌≡◌, ℕ, ◌<◌, List, [], ◌∷◌, ◌++◌, length, sym, ap, subst, ◌∙◌, arith}
use Rattle.std.specs.List.{flat_map}
use Rattle.std.proofs.lemmas.Bool.{eqb-false}
use Rattle.std.proofs.lemmas.List.{append_assoc}
use Rattle.std.proofs.lemmas.List.Sums.{fold-append}
use Rattle.std.proofs.lemmas.Result.{on_ok_weaker, on_err_weaker}
use Rattle.pm_words.specs.Word.{Word}
use Rattle.kern_model.specs.declared.inner.Inner.{Inner}
use Rattle.kern_model.specs.declared.inner.Inner.TheVariants.{Fence}
use Rattle.kern_model.specs.Inner.{made, made_all, IsCut}
use Rattle.kern_model.specs.KernelCalls.{zero_events}
use Rattle.kern_commit.specs.Pages.{page_zeros, page_flushes}
use Rattle.kern_commit.proofs.CutLemmas.{cut_before, cut_after, some_zeroed, where_err}
use Rattle.kern_commit.proofs.steps.zero_pages.Goals as goal

pub returns-in_err-store_zeros-clause-err : goal.returns-in_err-store_zeros-clause-err
returns-in_err-store_zeros-clause-err c =
    let pages = c.args.granted.now in
    let ne = eqb-false (length pages) 0 (sym c.if-is_empty.ensures) in
    where_err c.from_residual.result
    (subst (λ (es : List Inner). IsCut es c.args.words.now c.store_zeros.new.words) (some_zeroed pages (omega (arith, ne)))
    (cut_before (flat_map page_zeros pages) (flat_map page_flushes pages ++ Fence ∷ []) c.args.words.now c.store_zeros.new.words c.in_err-store_zeros.ensures.err))

pub returns-in_err-flush_pages-clause-err : goal.returns-in_err-flush_pages-clause-err
returns-in_err-flush_pages-clause-err c =
    let pages = c.args.granted.now in
    let ne = eqb-false (length pages) 0 (sym c.if-is_empty.ensures) in
    where_err c.from_residual-in_err-flush_pages.result
    (subst (λ (es : List Inner). IsCut es c.args.words.now c.flush_pages.new.words) (some_zeroed pages (omega (arith, ne)))
    (cut_after (flat_map page_zeros pages) (flat_map page_flushes pages ++ Fence ∷ []) c.args.words.now c.flush_pages.new.words
    (subst (λ (words : List Word). IsCut (flat_map page_flushes pages ++ Fence ∷ []) words c.flush_pages.new.words) c.in_ok-store_zeros.ensures.ok
    (cut_before (flat_map page_flushes pages) (Fence ∷ []) c.store_zeros.new.words c.flush_pages.new.words c.in_err-flush_pages.ensures.err))))

-- the words before the fence
before : (pages : List ℕ) (old zeroed flushed : List Word) → zeroed ≡ made_all (flat_map page_zeros pages) old → flushed ≡ made_all (flat_map page_flushes pages) zeroed → flushed ≡ made_all (flat_map page_zeros pages ++ flat_map page_flushes pages) old
before pages old zeroed flushed one two = two ∙ ap (made_all (flat_map page_flushes pages)) one ∙ sym (fold-append made old (flat_map page_zeros pages) (flat_map page_flushes pages))

whole : (pages : List ℕ) → 0 < length pages → (flat_map page_zeros pages ++ flat_map page_flushes pages) ++ Fence ∷ [] ≡ zero_events pages
whole pages some = append_assoc (flat_map page_zeros pages) (flat_map page_flushes pages) (Fence ∷ []) ∙ some_zeroed pages some

pub returns-clause-ok : goal.returns-clause-ok
returns-clause-ok c =
    let pages = c.args.granted.now in
    let ne = eqb-false (length pages) 0 (sym c.if-is_empty.ensures) in
    let first = flat_map page_zeros pages ++ flat_map page_flushes pages in
    let mid = before pages c.args.words.now c.store_zeros.new.words c.flush_pages.new.words c.in_ok-store_zeros.ensures.ok c.in_ok-flush_pages.ensures.ok in
    on_ok_weaker c.make_all.result
    (λ done. done ∙ ap (λ (words : List Word). made words Fence) mid ∙ sym (fold-append made c.args.words.now first (Fence ∷ [])) ∙ ap (λ (es : List Inner). made_all es c.args.words.now) (whole pages (omega (arith, ne)))) c.make_all.ensures.ok

pub returns-clause-err : goal.returns-clause-err
returns-clause-err c =
    let pages = c.args.granted.now in
    let ne = eqb-false (length pages) 0 (sym c.if-is_empty.ensures) in
    let first = flat_map page_zeros pages ++ flat_map page_flushes pages in
    let mid = before pages c.args.words.now c.store_zeros.new.words c.flush_pages.new.words c.in_ok-store_zeros.ensures.ok c.in_ok-flush_pages.ensures.ok in
    on_err_weaker c.make_all.result
    (λ cut. subst (λ (es : List Inner). IsCut es c.args.words.now c.make_all.new.words) (whole pages (omega (arith, ne)))
    (cut_after first (Fence ∷ []) c.args.words.now c.make_all.new.words (subst (λ (words : List Word). IsCut (Fence ∷ []) words c.make_all.new.words) mid cut))) c.make_all.ensures.err
