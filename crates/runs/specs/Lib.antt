-- Which records end a run.
pub mod Ends
-- A run from record 0 on.
pub mod Ran
