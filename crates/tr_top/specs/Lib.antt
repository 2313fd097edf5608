-- which traces follow a script
pub mod Along
-- what a run of a script is
pub mod Run
-- what a run prints
pub mod Telling
-- how a run goes on, part by part
pub mod Running
-- what the top call has done
pub mod Top
-- what the parts of the top call answer
pub mod Ending
-- when a call must come to its end
pub mod Completes
