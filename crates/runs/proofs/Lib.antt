-- A step of END, and of any other record.
mod Ending
-- A run under way.
pub mod Going
