-- laws of what words denote
pub mod Laws
-- the words after stores
pub mod Stores
-- what a link leaves of its directory
pub mod Linking
-- what a new member leaves of its coffer
pub mod Making
-- a coffer that comes to have further pages
pub mod Growing
-- how many names a directory shows
pub mod NameCounts
-- a coffer's directories as a look-up finds them
pub mod Scenes
-- what a run of a plan leaves of words of the memory, with other threads beside it
pub mod RunWords
