-- what is planned for a call
pub mod Plans
-- what a row is made from
pub mod Asked
-- links and guards
pub mod Links
-- what refuses a call
pub mod Refusals
-- what a call stores
pub mod Stored
