-- what it is to be among a list
pub mod Members
-- the names of a path of one name
pub mod NameLaws
-- what commands are answered in the root coffer alone
pub mod AnswerLaws
-- what a call gives with a load, and with its reply
pub mod StepLaws
-- what a look-up and a count find in the root directory
pub mod SeenLaws
-- what a call gives while it looks for its name
pub mod LookExits
-- what pages that are drawn leave of a coffer
pub mod DrawnLaws
-- what a call gives with the call for pages
pub mod AskExits
-- what a call gives with a store of its plan
pub mod StoreExits
-- the stores that make a file in drawn pages
pub mod FillLaws
-- what a call gives while it counts names
pub mod CountExits
