-- where the leases of a call stand
pub mod Places
-- what a call gives, whatever it is answered
pub mod Acts
-- what holds of each stage of a call
pub mod Stages
