-- What a job makes of a memory file.
pub mod Images
