-- the lines of a text and the words of a line, at their ends
pub mod PieceLemmas
-- words that spell a number, and lines of one spelling
pub mod SpellingLemmas
-- what is bad behind a word that was taken
pub mod WordLemmas
-- a text is read line by line
pub mod ReadingLemmas
-- a text has one first bad place, and is then no script
pub mod PlaceLemmas
