pub mod Whole
mod Parts
mod Held
