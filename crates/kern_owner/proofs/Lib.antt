-- the pages that pass a test, counted along the pages
pub mod RangeLemmas
-- what the rules of the kernel's pages give
pub mod SoundLemmas
-- which pages are in a list, and lists in order
pub mod AmongLemmas
-- what the owner table says once pairs are stored
pub mod LawLemmas
-- the rules of coffers and path buckets
pub mod TableLemmas
-- a pair that is committed
mod PendingLemmas
-- the pages of an owner, as they are taken back
pub mod OwnedLemmas
