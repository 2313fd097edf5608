-- runs of machines, and how failed tries count
pub mod Counts
-- a try for a lease, step by step
pub mod BidLemmas
-- what an expired lease asks for, step by step
pub mod MendLemmas
-- a take of a lease, step by step
pub mod TakeLemmas
-- giving a lease back, step by step
pub mod GivingLemmas
-- a give-back, step by step
pub mod GiveLemmas
-- a look at a lease
pub mod CheckLemmas
-- a watch, step by step
pub mod WatchLemmas
-- a pool whose lease is taken
pub mod PoolLemmas
-- a pop, step by step
pub mod PopLemmas
-- a push, step by step
pub mod PushLemmas
-- the machines stay on their leases
pub mod Stays
