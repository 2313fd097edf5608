-- The kernel's single steps are defined in `tr_types`, and passed on here.
pub use Rattle.kern_model.specs.Inner.{kernel_thread, made, made_all, HasAddress, IsCut, line_of, with_line, RisesFrom, IsAscending, lines_of, stores_of, flushes_at, phase}
