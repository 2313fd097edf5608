-- what stays of the tables where their words read the same
pub mod TablesLemmas
-- when the kernel works over what is left
pub mod FrameLemmas
-- which words pairs are for, and how many the journal must have room for
pub mod RoomLemmas
-- what holds where no refusal is due
pub mod DueLemmas
-- coffers whose entries break no rule, and what stays where one changes
pub mod RightLemmas
-- the coffer that a path lies in
pub mod LocatedLemmas
-- rows that change no word: Find, Map, Unmap
pub mod MapsKeep
-- pages that come to a coffer: Enlarge
pub mod EnlargeKeeps
-- pages that go back: Shrink
pub mod ShrinkKeeps
-- words of a coffer's entry: Mode, Recover
pub mod EntriesKeep
-- the rows, one call after another
pub mod RowCases
-- what is read once a row's pairs are laid over
pub mod MoveReads
-- whose the pages are once a coffer comes or goes
pub mod MoveOwners
-- where the pairs stand by which a coffer comes or goes
pub mod MoveEntries
-- a coffer comes
pub mod MoveAdd
-- a coffer goes
pub mod MoveDrop
-- what a row commits can be committed
pub mod MoveHomes
-- lists of pages
pub mod MoveCounts
-- what is known where no refusal is due
pub mod MoveRefusals
-- the coffer that another lies directly under
pub mod MoveParents
-- the pages that a call lists
pub mod MoveListed
-- what a row leaves by which a coffer comes or goes
pub mod MoveKeeps
-- the free pages and the free number that a new coffer takes
pub mod MoveSpare
-- the rows that move pages keep the rules
pub mod NewKeeps
pub mod DeleteKeeps
pub mod MergeKeeps
pub mod SplitKeeps
-- what the kernel reads of its pages after a crash inside of a call
pub mod CrashTables
-- a crash changes no word of the kernel's pages
pub mod CrashSteady
