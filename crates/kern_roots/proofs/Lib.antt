pub mod ReadingSound
pub mod ReadingPieces
pub mod ReadingPaths
pub mod ReadingLists
pub mod ReadingCoffers
pub mod ReadingChains
pub mod ReadingTexts
pub mod ReadingFronts
pub mod ReadingChildren
-- which coffers there are, number by number
mod ChangingSearch
-- lists of pairs, and the words of an entry
mod ChangingPairs
-- the chain of a path bucket
mod ChangingChain
-- addresses of entries and buckets
mod ChangingLayout
-- what is read once pairs are stored
mod ChangingReads
-- lists of numbers
mod ChangingLists
-- entries of the coffer table
mod ChangingEntries
-- chains, and the rule of buckets
mod ChangingBuckets
-- how chains change
mod ChangingMoves
-- changes of one entry
mod ChangingSets
-- a coffer comes
mod ChangingAdd
-- paths in the words of an entry
mod ChangingText
-- a coffer is added
mod ChangingAdded
-- a coffer goes
mod ChangingDrop
-- an image with a committed pair
mod ChangingCommitted
-- the addresses of a change rise
mod ChangingOrder
