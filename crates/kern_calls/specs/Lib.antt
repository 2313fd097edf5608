-- what callers see of a kernel, and what its calls answer
pub mod Calls
-- how pages stand in the tables of rights
pub mod Standing
-- the parts of a kernel call
pub mod Steps
