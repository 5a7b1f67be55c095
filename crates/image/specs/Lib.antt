-- What the bytes of a memory file mean.
pub mod Image
