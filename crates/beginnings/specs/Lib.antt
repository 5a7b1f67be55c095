-- What a scan and a trial ask for, and what a move changed.
pub mod Changes
pub mod Scans
pub mod Tried
