pub mod Ways
pub mod Changes
pub mod Theorem
pub mod Bytes
pub mod Back
