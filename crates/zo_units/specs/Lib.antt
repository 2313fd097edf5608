-- the memory's words with the places of their values, and what a crash leaves
pub mod Memory
-- commits, and what the words of a coffer denote while some may still be lost
pub mod Units
-- laws of the memory
pub mod MemoryLaws
-- laws of the units of a coffer
pub mod UnitLaws
-- the commit of a link
pub mod Commits
