-- Two scans side by side
pub mod Answers
pub mod Back
-- The inputs that are drawn into memory files
pub mod Inputs
