pub mod Part
pub mod Bounds
