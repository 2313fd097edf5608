-- what stays of a directory, and what a deed leaves
pub mod Frames
-- deeds that leave the tree and its pages as they are
pub mod Changes
-- stores beside the names of a directory
pub mod Sides
-- looks, flushes and fences
pub mod Looks
-- stores into drawn pages, and into the leases of pools
pub mod Drafts
-- leases of directories
pub mod Leases
-- the counter of a directory and the note beside it
pub mod Counters
-- free entries and entry pages
pub mod Entries
-- drawn pages that become entry pages
pub mod Pages
-- pages that a thread draws
pub mod Draws
-- replies
pub mod Replies
-- the commit of a link
pub mod Commits
-- all deeds
pub mod AllDeeds
