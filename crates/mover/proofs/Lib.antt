-- The move by its cases.
pub mod Judging
mod Placing
mod Moving
