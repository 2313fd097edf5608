-- what is stored when pages come to a coffer or go back
pub mod Owners
-- why no pages are given
pub mod Refusal
-- what the owner table says after
pub mod Laws
