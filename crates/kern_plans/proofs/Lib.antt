-- checks, one after the other
pub mod CheckLemmas
-- coffers that a call names
pub mod NamedLemmas
-- the directory of a path
pub mod DirectoryLemmas
-- the names of a path, and the coffer that it lies in
pub mod LookLemmas
-- refusals of a row
pub mod RowLemmas
-- pages of an owner
pub mod GiveLemmas
-- the number of a new coffer
pub mod EntryLemmas
-- a coffer that is split off another
pub mod PieceLemmas
-- rows of calls by which a coffer comes or goes
pub mod MoveLemmas
-- the row of a Split
pub mod SplitLemmas
-- a coffer that is new
pub mod FreshLemmas
