-- What is kept of a torn file
pub mod Kept
-- The file that is written, and the answer
pub mod Salvaged
pub mod Salvage
