pub mod Words
pub mod Digits
mod Commands
mod Computed
