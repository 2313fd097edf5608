-- what stands between slashes, as a split gives it
pub mod PathLemmas
-- pairs that are laid over words
pub mod LaidLemmas
-- pairs that can be finished
pub mod TargetLemmas
-- the paths of all coffers, by their numbers
pub mod ReadLemmas
-- tests of some numbers of a range
pub mod RangeLemmas
-- a chain whose numbers are marked one by one
pub mod ChainLemmas
-- the first fault of the kernel's pages
pub mod FaultLemmas
-- tables that read the same break the same rules
pub mod SameTables
-- words that are finished are as sound as they were
pub mod SoundLemmas
