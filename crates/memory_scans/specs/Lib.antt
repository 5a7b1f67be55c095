-- What a scan makes of a memory file.
pub mod Scans
-- A scan of the old program and one of the moved one.
pub mod Pairs
