-- Tables that are filled entry by entry, numbers that go up by steps, and bytes that are summed.
pub mod Filling
pub mod Steps
pub mod Sums
