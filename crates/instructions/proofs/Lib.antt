-- The rows of the table
pub mod Rows
-- What the last arm of a match on a number knows.
pub mod Keys
