use Rattle.std.proofs.Common.{Option, sym, ◌∙◌, refl, subst}
use Rattle.std.specs.Prelude.{IsSome}
use Rattle.std.proofs.lemmas.Result.{err_from_is_err_and}
use Rattle.kern_model.specs.KernelView.{pages_of}
use Rattle.kern_model.specs.Journal.{kernel_word}
use Rattle.kern_model.specs.KernelTables.{Coffer}
use Rattle.kern_roots.specs.Reading.{IsRefused}
use Rattle.kern_roots.specs.declared.types.RootsFault.TheVariants.{NoCoffer, NoMemory}
use Rattle.kern_roots.proofs.ReadingCoffers.{coffer_is, coffer_isnt}
use Rattle.kern_roots.proofs.reading.children.Goals as goal

pub returns-then-not-is_there-clause-err : goal.returns-then-not-is_there-clause-err
returns-then-not-is_there-clause-err c =
    let missing = sym c.is_there.ensures ∙ c.if-not-is_there.true in
    subst (λ (found : Option Coffer). IsRefused found NoCoffer) (sym (coffer_isnt (pages_of c.args.words.now) (kernel_word c.args.words.now) c.args.id missing)) refl

pub returns-in_err-ids-clause-err : goal.returns-in_err-ids-clause-err
returns-in_err-ids-clause-err c =
    let there = sym c.is_there.ensures ∙ c.if-not-is_there.false in
    let here = coffer_is (pages_of c.args.words.now) (kernel_word c.args.words.now) c.args.id there in
    let p = err_from_is_err_and c.from_residual.result c.from_residual.ensures.1 in
    rw (p.1, p.2) (subst (λ (found : Option Coffer). IsRefused found NoMemory) (sym here) refl)

pub returns-clause-there : goal.returns-clause-there
returns-clause-there c =
    let there = sym c.is_there.ensures ∙ c.if-not-is_there.false in
    let here = coffer_is (pages_of c.args.words.now) (kernel_word c.args.words.now) c.args.id there in
    subst (λ (found : Option Coffer). IsSome found) (sym here) refl
