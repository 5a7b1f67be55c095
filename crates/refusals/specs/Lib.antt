-- "Numbers of refusal", 1 to 8, line by line, and the whole table.
-- The record told: the first of which a line holds
pub mod First
-- The lines: 1; 2, 3 and 4, after what the table allows of an operand; 5, after the rung rule; 6; 7; 8
pub mod Frame
pub mod Admits
pub mod Records
pub mod Keeps
pub mod Rung
pub mod Structure
pub mod Labels
pub mod Steps
-- The table, in its order
pub mod Table
