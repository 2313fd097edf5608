-- a world in which the root coffer is the only one
pub mod Rooted
-- what a session knows between two of its actions, and what it gives
pub mod Sessions
