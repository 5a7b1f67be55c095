-- The mover: each line as it judges it and as the table says it, and the table.
pub mod LineLaws
pub mod Moves
-- The map, as the sentence says it.
pub mod Maps
