-- a trace with one more entry
pub mod Growing
-- what stays where an entry leaves what calls see
pub mod Same
-- who was started, and for whom they act
pub mod Users
-- the calls of threads, with one changed
pub mod Puts
-- how a core stands after an event
pub mod Events
-- how it stands after a call was given, and after a turn
pub mod Turns
-- what a core keeps, and what it answers
pub mod Keeps
-- how the world opens over a new image
pub mod Opening
-- which of the machine's faults can come
mod Faults
