-- what a call gives, whatever it is answered
pub mod Acts
-- what a call knows between two of its actions
pub mod Knows
