-- every word of a new image
pub mod NewImage
-- what the kernel's pages say
pub mod KernelView
-- which pages are free, by one number
pub mod FreePages
-- what the kernel's tables say, and their rules
pub mod KernelTables
-- the journal as it is read
pub mod Journal
-- which rule of the kernel's pages fails first
pub mod KernelRules
-- which coffer a path lies in
pub mod PathMap
-- what the kernel reads
pub mod Kernel
-- the single steps of the kernel
pub mod Inner
-- who may load and store
pub mod Rights
-- the kernel's calls
pub mod KernelCalls
-- what the journal's steps leave, whole or cut by crashes
pub mod JournalLaws
-- what a kernel call commits, and when the kernel works
pub mod Commits
-- what is left where pages are given to a coffer
pub mod Given
