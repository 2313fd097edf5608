-- what the actions of a call are for
pub mod Marks
-- the kernel's rows, of a root coffer that is the only one
pub mod RootCoffer
-- one state for a whole trace, in two halves
pub mod Worlds
-- one window for each thread
pub mod OneWindow
