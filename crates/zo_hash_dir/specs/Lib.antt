-- names in words of eight letters
pub mod Letters
-- the stores that link a name
pub mod Links
-- where the words of a directory may lead
pub mod Addresses
-- a directory as a look-up and a count find it
pub mod Scene
-- what a look-up knows and gives
pub mod Looking
-- what a list of names knows and gives
pub mod Counting
