use Rattle.std.proofs.Common.{List, ℕ, Option, Some, sym, ap, ◌∙◌, refl, subst}
use Rattle.std.specs.Prelude.{option_map}
use Rattle.std.proofs.lemmas.Result.{err_from_is_err_and}
use Rattle.kern_model.specs.KernelView.{pages_of}
use Rattle.kern_model.specs.Journal.{kernel_word}
use Rattle.kern_model.specs.KernelTables.{Coffer}
use Rattle.kern_roots.specs.Reading.{IsRefused}
use Rattle.kern_roots.specs.declared.types.RootsFault.TheVariants.{NoCoffer, NoMemory}
use Rattle.kern_roots.proofs.ReadingCoffers.{coffer_is, coffer_isnt}
use Rattle.kern_roots.proofs.reading.path_of.Goals as goal

pub returns-then-not-is_there-clause-err : goal.returns-then-not-is_there-clause-err
returns-then-not-is_there-clause-err c =
    let missing = sym c.is_there.ensures ∙ c.if-not-is_there.true in
    subst (λ (found : Option Coffer). IsRefused found NoCoffer) (sym (coffer_isnt (pages_of c.args.words.now) (kernel_word c.args.words.now) c.args.id missing)) refl

pub returns-in_err-path-clause-err : goal.returns-in_err-path-clause-err
returns-in_err-path-clause-err c =
    let there = sym c.is_there.ensures ∙ c.if-not-is_there.false in
    let here = coffer_is (pages_of c.args.words.now) (kernel_word c.args.words.now) c.args.id there in
    let p = err_from_is_err_and c.from_residual.result c.from_residual.ensures.1 in
    rw (p.1, p.2) (subst (λ (found : Option Coffer). IsRefused found NoMemory) (sym here) refl)

pub returns-clause-ok : goal.returns-clause-ok
returns-clause-ok c =
    let there = sym c.is_there.ensures ∙ c.if-not-is_there.false in
    let here = coffer_is (pages_of c.args.words.now) (kernel_word c.args.words.now) c.args.id there in
    ap (λ (found : Option Coffer). option_map (λ (d : Coffer). d.path) found) here
    ∙ ap (λ (path : List ℕ). Some path) (sym (c.new.ensures ∙ c.in_ok-path.ensures))
