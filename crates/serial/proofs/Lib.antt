pub mod Frames
pub mod Buffers
