-- Names for the theorems of the move.
pub mod Rename
pub mod Series
