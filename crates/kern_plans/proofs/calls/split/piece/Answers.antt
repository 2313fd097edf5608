use Rattle.std.proofs.Common.{◌≡◌, ◌<◌, ◌∙◌, ℕ, List, [], ◌∷◌, length, get_or, None, Err, false, true, vec_len, refl, sym, ap, subst, arith}
use Rattle.std.specs.Prelude.{All}
use Rattle.std.proofs.lemmas.Bool.{eqb-true, eq-eqb}
use Rattle.std.proofs.lemmas.Result.{err_from_is_err_and}
use Rattle.std.proofs.lemmas.List.Elements.{All-same}
use Rattle.pm_words.specs.Word.{Word}
use Rattle.kern_model.specs.KernelView.{pages_of}
use Rattle.kern_model.specs.KernelCalls.{first_due, pages_short}
use Rattle.kern_plans.specs.Plans.{Plan}
use Rattle.kern_plans.specs.Links.{link_of}
use Rattle.kern_plans.specs.Refusals.{TellsFirstDue, entry_refusals}
use Rattle.kern_plans.specs.Stored.{piece_pairs}
use Rattle.kern_plans.proofs.CheckLemmas.{stopped}
use Rattle.kern_plans.proofs.GiveLemmas.{spare_inside}
use Rattle.kern_plans.proofs.PieceLemmas.{none_free, some_free, piece_is}
use Rattle.kern_plans.proofs.calls.split.piece.Goals as goal

pub returns-in_err-id-clause-refused : goal.returns-in_err-id-clause-refused
returns-in_err-id-clause-refused c =
    let p = err_from_is_err_and c.from_residual.result c.from_residual.ensures.1 in
    stopped (Unit {0}) Plan [] (entry_refusals c.args.asked.now.words c.args.path.now) (pages_short c.args.asked.now.words 1 ∷ []) c.in_err-id.field-0.0 p.0 c.from_residual.result p.1 p.2 refl
    (subst (λ (words : List Word). TellsFirstDue {X = Unit {0}} (entry_refusals words c.args.path.now) (Err c.in_err-id.field-0.0)) c.words-words.ensures.words c.in_err-id.ensures.refused)

pub returns-then-is_empty-clause-refused : goal.returns-then-is_empty-clause-refused
returns-then-is_empty-clause-refused c =
    let passes = subst (λ (words : List Word). first_due (entry_refusals words c.args.path.now) ≡ None) c.words-words.ensures.words c.in_ok-id.ensures.refused in
    let size = sym (ap (λ (xs : List ℕ). length xs) c.in-Ok.ensures) in
    let none = eqb-true _ 0 (sym c.if-is_empty.ensures) in
    none_free c.args.asked.now.words c.args.path.now passes (omega arith)

pub piece_pairs-requires-clause-listed : goal.piece_pairs-requires-clause-listed
piece_pairs-requires-clause-listed c =
    subst (λ (words : List Word). All (λ page. page < pages_of words) c.args.pages.now) (sym c.words-words.ensures.words) c.requires.listed

pub piece_pairs-requires-clause-free : goal.piece_pairs-requires-clause-free
piece_pairs-requires-clause-free c =
    subst (λ (words : List Word). All (λ page. page < pages_of words) c.deref-2.result.now) (sym c.words-words.ensures.words)
    (All-same (λ (page : ℕ). page < pages_of c.args.asked.now.words) _ _ (c.deref-2.ensures.value ∙ c.in-Ok.ensures) (spare_inside c.args.asked.now.words 1))

pub returns-in-Ok-piece_pairs-clause-refused : goal.returns-in-Ok-piece_pairs-clause-refused
returns-in-Ok-piece_pairs-clause-refused c =
    let passes = subst (λ (words : List Word). first_due (entry_refusals words c.args.path.now) ≡ None) c.words-words.ensures.words c.in_ok-id.ensures.refused in
    let size = sym (ap (λ (xs : List ℕ). length xs) c.in-Ok.ensures) in
    let some = c.if-is_empty.ensures in
    some_free c.args.asked.now.words c.args.path.now passes (λ none.
    let both : false ≡ true = some ∙ eq-eqb (vec_len c.in-Ok.granted) 0 (omega arith) in
    cc)

pub returns-in-Ok-piece_pairs-clause-plan : goal.returns-in-Ok-piece_pairs-clause-plan
returns-in-Ok-piece_pairs-clause-plan c =
    piece_is c.words-words.result.now c.args.asked.now.words c.in_ok-id.id c.page_of.result c.page_of-2.result c.args.path.now c.args.pages.now c.in-Ok.granted.items c.args.perm
    c.in_ok-id.added c.as_slice.result.now c.in-Ok-piece_pairs.pairs.items (link_of c.args.link) c.words-words.ensures.words c.in_ok-id.ensures.id c.in_ok-id.ensures.pairs c.as_slice.ensures c.in-Ok.ensures
    (c.page_of.ensures ∙ ap (λ (xs : List ℕ). get_or xs 0 0) c.deref.ensures.value) c.page_of-2.ensures
    (c.in-Ok-piece_pairs.ensures ∙ ap (λ (xs : List ℕ). piece_pairs c.words-words.result.now c.in_ok-id.id c.args.pages.now xs c.as_slice.result.now (link_of c.args.link)) c.deref-2.ensures.value)
