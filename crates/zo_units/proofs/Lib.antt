-- words of the memory and their places
pub mod Places
-- what stands at paths, and what a coffer's words denote by its parts
pub mod Nodes
-- what a crash leaves of a coffer
pub mod Survives
-- one unit beside others
pub mod UnitFrames
-- what keeps a coffer sound
pub mod Frames
-- the words that tell the tree, and what is aside of them
pub mod Telling
-- stores beside, flushes, fences, and pages that come
pub mod Steps
-- the memory of a list of words
pub mod Lists
-- the commit of a link
pub mod Linked
-- a coffer whose words are durable, and after a crash
pub mod Starts
-- how many names a directory has
pub mod Counts
