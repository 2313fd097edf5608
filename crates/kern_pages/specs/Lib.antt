-- the pages of each owner
pub mod Owners
-- the same as sets, one for each owner
pub mod Sets
