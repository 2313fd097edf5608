-- the calls of threads, by their numbers
pub mod Places
-- which traces a core has
pub mod Traces
-- what each call of a core answers, and what it leaves
pub mod Core
-- how a core stands between two calls
pub mod Standing
-- what a core does on its machine and trace
pub mod Steps
