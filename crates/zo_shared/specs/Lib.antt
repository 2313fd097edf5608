-- a coffer as the calls that work in it share it
pub mod Shared
-- what a thread may do to it
pub mod Deeds
-- what others may rely on meanwhile
pub mod Rely
