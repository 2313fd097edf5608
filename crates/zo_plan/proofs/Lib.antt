-- what is left behind each action of a run
pub mod Courses
-- what a run answers where a lease was taken away
pub mod Expiry
-- how many actions a run has
pub mod Lengths
-- looks before stores
pub mod Looking
