-- a walk along a path that splits it into names
pub mod Walked
-- the text of a path, name by name
pub mod Texts
-- the coffer with the longest path, found from the front on
pub mod Deepest
-- a step of a walk
pub mod Walks
-- coffers of which no two have one path
pub mod CofferLemmas
-- what `stat` is answered by the coffer of its path
pub mod AnswerLemmas
