use Rattle.std.proofs.Common.{Option, Some, sym, ap, ◌∙◌}
use Rattle.std.specs.Prelude.{option_map}
use Rattle.kern_model.specs.KernelView.{pages_of}
use Rattle.kern_model.specs.Journal.{kernel_word}
use Rattle.kern_model.specs.KernelTables.{Coffer}
use Rattle.kern_roots.specs.Reading.{root_of}
use Rattle.kern_roots.specs.declared.types.Root.{Root}
use Rattle.kern_roots.proofs.ReadingCoffers.{coffer_is, coffer_isnt}
use Rattle.kern_roots.proofs.reading.entry_of.Goals as goal

pub returns-then-is_there : goal.returns-then-is_there
returns-then-is_there c =
    let there = sym c.is_there.ensures ∙ c.if-is_there.true in
    ap (λ (r : Root). Some r) c.read_root.ensures
    ∙ sym (ap (λ (found : Option Coffer). option_map root_of found) (coffer_is (pages_of c.args.words.now) (kernel_word c.args.words.now) c.args.id there))

pub returns-else-is_there : goal.returns-else-is_there
returns-else-is_there c =
    let missing = sym c.is_there.ensures ∙ c.if-is_there.false in
    sym (ap (λ (found : Option Coffer). option_map root_of found) (coffer_isnt (pages_of c.args.words.now) (kernel_word c.args.words.now) c.args.id missing))
