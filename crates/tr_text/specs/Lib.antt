-- how names, modes and the like are spelled
pub mod Spelling
-- how the parts of an entry are spelled, in words
pub mod Words
-- what the entries of a trace print
pub mod Text
-- which entries can be written, and that their texts tell them apart
pub mod Written
