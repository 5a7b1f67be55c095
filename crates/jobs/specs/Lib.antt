-- Jobs: "several blocks to places we name".
pub mod Tasks
-- What comes of a job over a file and a D table
pub mod Jobbed
pub mod Job
-- A job as text
pub mod JobLine
pub mod Text
