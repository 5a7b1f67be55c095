pub mod Crc
pub mod Frame
pub mod Exceptions
pub mod Writes
pub mod Replies
pub mod Answered
pub mod Answer
