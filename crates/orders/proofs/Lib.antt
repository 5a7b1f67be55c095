-- Moves to named places. Read Two and Any first; what they rest on stands before them.
-- Words and records
mod Words
mod Renamed
-- Files by their records
mod Files
mod Went
mod Image
-- What is accepted after a move
mod After
mod Tables
-- The theorems
pub mod Two
pub mod Any
mod Back
pub mod Numbers
pub mod Jobs
pub mod Example
