-- the word of a lease, and those beside it
pub mod Words
-- what machines give and hear
pub mod Steps
-- tries for a lease
pub mod Bids
-- what an expired lease asks for
pub mod Mends
-- taking a lease
pub mod Takes
-- looking at a lease that is held
pub mod Checks
-- giving a lease back
pub mod Gives
-- watching a lease
pub mod Watches
-- taking a page out of a pool
pub mod Pops
-- putting a page into a pool
pub mod Pushes
-- what a machine has been told
pub mod Turns
-- what machines keep
pub mod Laws
