-- what callers see of a machine
pub mod View
-- the machine as it opens
pub mod Opening
-- what each call answers, and what it leaves
pub mod Calls
-- what a step of a thread does on a bus
pub mod Steps
-- what ties the parts of a bus together
pub mod Ties
