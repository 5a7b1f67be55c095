pub mod Computing
pub mod Known
pub mod Part
pub mod Pairs
pub mod Walk
