-- A series of pairs of scans
pub mod Series
