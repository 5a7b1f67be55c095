-- The mover's lines of the table of refusals, and the table.
pub mod Lines
pub mod Table
-- Which words a program uses.
pub mod Uses
