-- A scan over a memory file, from what its calls give.
mod Scanning
-- Demand 3 of a pair of scans.
pub mod Alike
