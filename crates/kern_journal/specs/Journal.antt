-- The journal's pages and steps are defined in `tr_types`, and passed on here.
pub use Rattle.kern_model.specs.Inner.{IsHome, committed_count, pair_at, committed, laid_over, kernel_word, IsReadable, journal_words, count_pair, finish_events, journal_events, finish_any, redo_events}
