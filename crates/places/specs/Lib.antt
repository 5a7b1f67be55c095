-- What the search of a place is made of, and what a right place is.
pub mod Runs
pub mod Right
