-- how a script's place passes lines
mod PlaceLemmas
-- a run with one more entry of its core
mod AlongLemmas
-- parts of a run, and what each has told
mod RunLemmas
-- what each line of a script leaves
mod LineLemmas
-- what holds while turns of a call are made
mod CallRuns
-- what holds between two lines
mod LineRuns
-- how a run ends
mod Endings
-- when a call must come to its end
mod Completes
