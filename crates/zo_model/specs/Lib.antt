-- which commands can be given
pub mod Commands
-- the trees of names that users see
pub mod Tree
-- a directory as its words have it
pub mod Directory
-- what the words of a coffer denote
pub mod CofferWords
-- the coffers that stand
pub mod Coffers
-- what commands are answered
pub mod Answers
-- what a thread's running call has done so far
pub mod Seats
-- which commits and replies are right
pub mod Legal
-- what our calls keep beyond what is legal
pub mod Discipline
-- what a call sees, and what its actions leave
pub mod Steps
-- the root coffer alone
pub mod Alone
