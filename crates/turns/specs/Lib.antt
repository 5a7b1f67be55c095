-- Two scans side by side.
pub mod Turns
