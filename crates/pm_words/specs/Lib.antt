pub mod Hash
pub mod Marks
pub mod Word
pub mod Memory
pub mod Crash
pub mod History
pub mod View
