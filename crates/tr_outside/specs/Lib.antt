-- Definitions that the contracts cite.
pub mod Adapter
pub mod Causes
pub mod ImageBytes
pub mod ImageRead
pub mod Memory
pub mod Whole
