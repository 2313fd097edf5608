-- what is read once for all
pub mod Reads
-- the parts in which the rules are tried
pub mod RuleParts
-- what is true of the first fault
pub mod Laws
