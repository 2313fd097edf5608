-- what operands stand for, and the stores that a plan comes to
pub mod Operands
-- the words of a lease, and what a load of it shows
pub mod Leases
-- the actions of a run
pub mod Deeds
-- what is left of a run of a plan under leases
pub mod Runs
-- what is left at each stage of it
pub mod Stages
-- what is left of a run of stores alone
pub mod StoreRuns
-- what is left at each stage of it
pub mod StoreStages
-- laws of runs under leases
pub mod Laws
