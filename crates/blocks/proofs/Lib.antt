-- The exchange of the numbers of block and place.
pub mod Swapped
