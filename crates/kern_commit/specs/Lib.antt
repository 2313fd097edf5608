-- the steps that zero a page, under names
pub mod Pages
-- what a crash inside of a commit leaves
pub mod Crashes
