-- a state folded along a list of entries
pub mod Fold
-- what a trace shows
pub mod Traces
-- paths as texts
pub mod Paths
-- what a permission gives
pub mod Permission
-- what the text of a kernel's answer shows
pub mod Shown
