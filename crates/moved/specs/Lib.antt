-- The moved file: what is promised.
-- What the mover has tested when it takes a place
pub mod Placed
-- What the moved file then is
pub mod Moves
