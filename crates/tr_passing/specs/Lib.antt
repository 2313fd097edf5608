-- what a crash may still drop, told by units
pub mod Units
-- the laws of replays
pub mod Laws
