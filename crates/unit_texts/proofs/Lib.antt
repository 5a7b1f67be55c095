pub mod Report
mod Lines
mod Held
