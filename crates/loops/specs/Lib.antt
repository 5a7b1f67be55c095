pub mod Capped
pub mod Walks
