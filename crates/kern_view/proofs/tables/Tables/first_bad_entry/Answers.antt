use Rattle.std.proofs.Common.{◌≡◌, ℕ, false, sym, ◌∙◌}
use Rattle.kern_model.specs.KernelView.{pages_of}
use Rattle.kern_model.specs.Journal.{kernel_word}
use Rattle.kern_model.specs.KernelTables.{entry_fails}
use Rattle.kern_view.proofs.RangeLemmas.{one_more}
use Rattle.kern_view.proofs.tables.Tables.first_bad_entry.Goals as goal

pub loop-id-preserved : goal.loop-id-preserved
loop-id-preserved c =
    one_more (λ (k : ℕ). entry_fails (pages_of c.args.self.now) (kernel_word c.args.self.now) k ≡ false) 1 c.loop-id.id c.loop-id.invariant
    (sym c.entry_fails.ensures ∙ c.if-entry_fails.false)
