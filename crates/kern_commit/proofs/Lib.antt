-- a list of steps that is cut in one of its parts
mod CutLemmas
-- pairs in order of address
mod OrderLemmas
-- how many steps there are
mod CountLemmas
-- what pages are after they are zeroed
mod ZeroedLemmas
-- what a commit leaves
mod CommitLemmas
-- nothing is committed in a new image
mod NewLemmas
-- words while pages are zeroed, and crashes where nothing is committed
mod CrashWords
-- a crash inside of a commit leaves the whole or none
mod CrashLemmas
