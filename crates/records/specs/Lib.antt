-- The ranges of what is read from a file.
pub mod Ranges
