-- The lines of the list of calls.
pub mod Called
