-- The three demands, proved. Read Demand1, Demand2 and Demand3; what they rest on stands before them.
-- Ranges of words
pub mod Ranges
-- The lines 9 to 14, and the answers of scan, mover and exchange by them
pub mod Lines
pub mod Split
pub mod Places
pub mod ScanAnswers
pub mod MoveAnswers
pub mod ExchangeAnswers
pub mod RequestAnswers
-- Steps, counted out
pub mod Counted
-- Operands: the lengths of the tables, what a record names
pub mod Lengths
pub mod Named
-- Flow and stacks: a byte as a stack, a step by the rung rule; a whole scan
pub mod Stacks
pub mod Power
pub mod Going
pub mod Total
-- Scans and requests in any order
pub mod Events
-- The demands
pub mod Demand1
pub mod Demand2
pub mod Demand3
-- The entry without a budget
pub mod Budget
-- The time that timers are given
pub mod Time
