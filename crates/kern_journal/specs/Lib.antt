-- the single steps that the journal makes
pub mod Inner
-- the journal's pairs, what is committed, and what the kernel reads
pub mod Journal
