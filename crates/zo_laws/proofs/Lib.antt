-- what it is to be among a list
pub mod Members
-- chains of entries
pub mod Chains
-- what a directory shows
pub mod Directories
-- what a coffer's words denote
pub mod Trees
-- the words after stores
pub mod StoreLemmas
-- chains, entries and directories over words that agree where they are read
pub mod FrameLemmas
-- the stores of a link, and the words that they leave
pub mod PairLemmas
-- the commit of a link
pub mod CommitLemmas
-- what the stores that prepare a link leave alone
pub mod PrepareLemmas
-- a link in the first free entry
pub mod FreeLemmas
-- a link in a drawn entry page
pub mod FreshLemmas
-- what a link leaves of its directory
pub mod LinkLemmas
-- what stores leave alone that go to some pages only
pub mod PageLemmas
-- a tree with one member more
pub mod MemberLemmas
-- what a new member leaves of its coffer, up to the commit
pub mod MakeLemmas
-- a coffer that comes to have further pages
pub mod GrowLemmas
-- how many names a directory shows
pub mod NameCounts
-- a coffer's directories as a look-up finds them
pub mod Scenes
-- marks of a word, and a word after flushes, fences and stores
pub mod WordMarks
-- what the actions of a run leave of a word
pub mod DurableLemmas
-- the notes beside leases
pub mod NoteLemmas
-- the counters beside leases
pub mod CounterLemmas
-- the stores of a run, and its words
pub mod StoresInLemmas
