-- what a row leaves of the kernel's tables
pub mod Rows
-- what a crash inside of a kernel call leaves
pub mod Crashes
