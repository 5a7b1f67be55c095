-- Equal answers have equal parts. Where a run of records stops, and what is kept then; how many records are enough to look at; what a salvage that is done
-- fits
pub mod Parts
pub mod Stops
pub mod Capped
pub mod Fits
