-- What the use map is made of.
pub mod Maps
