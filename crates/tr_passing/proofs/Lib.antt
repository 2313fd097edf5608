-- what the events of a kernel call leave of a word's older values
pub mod Shrinks
-- places of words after an entry
pub mod Rising
-- a change that makes a file
pub mod Growth
-- commits, seats and the table after an entry
pub mod Orders
-- which entries move the trees
pub mod Moves
-- how the units stand to the world
pub mod Keeping
-- the units stand to the world as before
pub mod Ordering
-- what users see without dropped changes
pub mod Differing
-- one more entry keeps all
pub mod Living
-- replies under a still root directory
pub mod Replies
-- before any entry
pub mod Starting
-- what may be dropped behind a crash
pub mod Crashing
