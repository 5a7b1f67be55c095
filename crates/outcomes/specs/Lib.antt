-- What a word instruction does.
pub mod Done
