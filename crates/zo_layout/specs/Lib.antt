-- where the fields of an image stand
pub mod Layout
