-- Lemmas of the crate.
pub mod Answered
pub mod Known
pub mod ImageWords
mod Pages
pub mod Stops
