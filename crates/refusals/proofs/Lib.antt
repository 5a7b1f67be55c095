-- The check answers as the table of refusals says. Read Check and Refused first; what they rest on stands before them.
-- A search for the first record, a judgement by one line, the operands of a record; then each line as the check computes it and as the table says it: 1; 2, 3 and 4; 5; 6; 7; 8
pub mod Search
pub mod Tells
pub mod Has
pub mod Frame
pub mod Admits
pub mod Operands
pub mod Work
pub mod Records
pub mod Keeps
pub mod Rung
pub mod Controls
pub mod Structure
pub mod Depth
pub mod Labels
pub mod Steps
-- The table: what is told, that nothing else is, and each number both ways
pub mod Check
pub mod Refused
-- A file for each number
pub mod Example
