-- the list of owners against the owner table
pub mod TellsLemmas
-- sets in a list, seen as the lists of their keys
mod KeysLemmas
-- a page more or less in a list in order
mod OrderLemmas
-- the sets of the owners' pages against the list of owners
mod SetsLemmas
-- whose the pages behind the kernel's are
pub mod OuterLemmas
