pub mod Computing
pub mod Known
pub mod Answers
pub mod Good
pub mod Lengths
