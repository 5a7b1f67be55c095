-- The frame's laws, and some of the records by themselves.
pub mod FrameLaws
pub mod Parts
