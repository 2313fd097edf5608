use Rattle.std.proofs.Common.{◌≡◌, ◌<◌, ◌∙◌, ℕ, List, [], ◌∷◌, length, get_or, None, Err, refl, sym, ap, subst, arith}
use Rattle.std.specs.Prelude.{All}
use Rattle.std.proofs.lemmas.Result.{err_from_is_err_and}
use Rattle.std.proofs.lemmas.List.{length-take}
use Rattle.std.proofs.lemmas.List.Elements.{All-same}
use Rattle.pm_words.specs.Word.{Word}
use Rattle.kern_model.specs.KernelView.{pages_of}
use Rattle.kern_model.specs.Kernel.{spare_pages}
use Rattle.kern_model.specs.KernelCalls.{first_due, pages_short}
use Rattle.kern_plans.specs.Plans.{Plan}
use Rattle.kern_plans.specs.Links.{link_of}
use Rattle.kern_plans.specs.Refusals.{TellsFirstDue, entry_refusals}
use Rattle.kern_plans.specs.Stored.{fresh_pairs}
use Rattle.kern_plans.proofs.CheckLemmas.{stopped}
use Rattle.kern_plans.proofs.GiveLemmas.{spare_inside}
use Rattle.kern_plans.proofs.FreshLemmas.{too_few, enough, fresh_is}
use Rattle.kern_plans.proofs.calls.new.fresh.Goals as goal

pub returns-in_err-id-clause-refused : goal.returns-in_err-id-clause-refused
returns-in_err-id-clause-refused c =
    let p = err_from_is_err_and c.from_residual.result c.from_residual.ensures.1 in
    stopped (Unit {0}) Plan [] (entry_refusals c.args.asked.now.words c.args.path.now) (pages_short c.args.asked.now.words 2 ∷ []) c.in_err-id.field-0.0 p.0 c.from_residual.result p.1 p.2 refl
    (subst (λ (words : List Word). TellsFirstDue {X = Unit {0}} (entry_refusals words c.args.path.now) (Err c.in_err-id.field-0.0)) c.words-words.ensures.words c.in_err-id.ensures.refused)

pub overflow_cast-free : goal.overflow_cast-free
overflow_cast-free c =
    let size = ap (λ (xs : List ℕ). length xs) c.in-Ok.ensures ∙ length-take 2 (spare_pages c.args.asked.now.words) in
    omega arith

pub returns-then-free-lt-NEW_PAGES-clause-refused : goal.returns-then-free-lt-NEW_PAGES-clause-refused
returns-then-free-lt-NEW_PAGES-clause-refused c =
    let passes = subst (λ (words : List Word). first_due (entry_refusals words c.args.path.now) ≡ None) c.words-words.ensures.words c.in_ok-id.ensures.refused in
    let size = ap (λ (xs : List ℕ). length xs) c.in-Ok.ensures in
    too_few c.args.asked.now.words c.args.path.now c.len-free.result passes (omega arith) c.if-free-lt-NEW_PAGES.true

pub fresh_pairs-requires : goal.fresh_pairs-requires
fresh_pairs-requires c =
    subst (λ (words : List Word). All (λ page. page < pages_of words) c.deref-3.result.now) (sym c.words-words.ensures.words)
    (All-same (λ (page : ℕ). page < pages_of c.args.asked.now.words) _ _ (c.deref-3.ensures.value ∙ c.in-Ok.ensures) (spare_inside c.args.asked.now.words 2))

pub returns-in-Ok-fresh_pairs-clause-refused : goal.returns-in-Ok-fresh_pairs-clause-refused
returns-in-Ok-fresh_pairs-clause-refused c =
    let passes = subst (λ (words : List Word). first_due (entry_refusals words c.args.path.now) ≡ None) c.words-words.ensures.words c.in_ok-id.ensures.refused in
    let size = ap (λ (xs : List ℕ). length xs) c.in-Ok.ensures in
    enough c.args.asked.now.words c.args.path.now c.len-free.result passes (omega arith) c.if-free-lt-NEW_PAGES.false

pub returns-in-Ok-fresh_pairs-clause-plan : goal.returns-in-Ok-fresh_pairs-clause-plan
returns-in-Ok-fresh_pairs-clause-plan c =
    fresh_is c.words-words.result.now c.args.asked.now.words c.in_ok-id.id c.page_of.result c.page_of-2.result c.args.kind c.args.path.now c.in-Ok.granted.items c.args.perm
    c.in_ok-id.added c.as_slice.result.now c.in-Ok-fresh_pairs.pairs.items (link_of c.args.link) c.words-words.ensures.words c.in_ok-id.ensures.id c.in_ok-id.ensures.pairs c.as_slice.ensures c.in-Ok.ensures
    (c.page_of.ensures ∙ ap (λ (xs : List ℕ). get_or xs 0 0) c.deref.ensures.value) (c.page_of-2.ensures ∙ ap (λ (xs : List ℕ). get_or xs 1 0) c.deref-2.ensures.value)
    (c.in-Ok-fresh_pairs.ensures ∙ ap (λ (xs : List ℕ). fresh_pairs c.words-words.result.now c.in_ok-id.id xs c.as_slice.result.now c.args.kind (link_of c.args.link)) c.deref-3.ensures.value)
