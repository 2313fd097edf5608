-- what the calls that read the coffer table answer
pub mod Reading
-- the entry of one coffer, as the kernel reads it
pub mod Entries
-- looking for the coffer of a path
pub mod Fronts
-- what the calls that change the coffer table answer
pub mod Changes
-- what the changes leave
pub mod Laws
