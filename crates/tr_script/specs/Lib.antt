-- which texts are scripts
pub mod Grammar
-- which place of a text is bad first
pub mod Places
-- what the reader of scripts answers
pub mod Reading
-- how a run ends
pub mod Status
