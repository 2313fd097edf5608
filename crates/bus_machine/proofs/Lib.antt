-- what the holders' rows say
pub mod Holding
-- who was started
pub mod Started
-- what an access is answered
pub mod Accesses
-- the kernel stays mounted over a store
mod Stores
-- the machine as it opens
mod Opened
-- what callers see of a bus
mod Viewed
-- what a kernel call leaves
mod Called
-- what the machine answers
mod Noted
