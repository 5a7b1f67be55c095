pub mod Extents
pub mod Used
pub mod Clear
pub mod Runs
pub mod Found
pub mod Theorems
pub mod Example
