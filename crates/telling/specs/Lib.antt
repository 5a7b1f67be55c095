pub mod Spans
pub mod Picture
pub mod Spelt
pub mod Named
