-- the word of up to eight letters, byte by byte
pub mod LettersLemmas
-- how a list of stores grows
pub mod Growing
-- what it is to be among a list
pub mod Members
-- which words are addresses that the layout allows
pub mod Allowed
-- names as texts in words
pub mod Names
-- chains of entries
pub mod Chains
-- how many entries there can be
pub mod Few
-- a walk along a bucket, step by step
pub mod Walking
-- what a step of a look-up gives
pub mod Steps
-- the letters of a name in one word
pub mod Lettering
-- what damage a step of a look-up tells
pub mod Damage
-- a count of names, step by step
pub mod Counting
