-- the rows where the root coffer is the only one
pub mod RootLemmas
-- words change by stores alone
pub mod Confined
