-- the machine: what it answers, and what an entry leaves
pub mod Machine
-- by what a word changes
pub mod Confined
