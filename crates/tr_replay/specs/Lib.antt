-- what a thread's running call has done so far
pub mod Seats
-- what is settled of a call's reply
pub mod Verdicts
-- why a call may reply what no tree decides
pub mod Causes
-- one state for a whole trace, for each set of dropped commits
pub mod Worlds
-- which entries are legal
pub mod Legal
-- what the actions of a call are for
pub mod Marks
-- what our calls keep beyond what is legal
pub mod Discipline
-- one window for each thread
pub mod Windows
-- what a crash may leave, after any entry
pub mod Crashes
