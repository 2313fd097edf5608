-- what a text keeps while more is appended
pub mod TextLemmas
-- how texts are read back
pub mod Reading
-- the parts of a text between separators
mod SplitLemmas
-- numbers and the like are read back
mod WordLemmas
-- which bytes stand in paths and names
mod PathLemmas
-- the words of an entry are plain
mod PlainLemmas
-- the words of an entry are read back
mod ReadLemmas
-- the text of an entry is read back
mod LawLemmas
