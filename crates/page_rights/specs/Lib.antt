pub mod Tables
pub mod Lookup
pub mod Laws
