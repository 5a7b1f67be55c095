-- The use map by its cases.
pub mod Laws
