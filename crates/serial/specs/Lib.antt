-- What comes over a serial line.
pub mod Held
