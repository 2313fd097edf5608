-- the stores of a plan's run are marked as stores
pub mod Runs
-- how a step leaves a call that goes on
pub mod Ends
