-- The move as a theorem, and what no scan changes. Read Scan, Series, Kept, Work and Map first; what they rest on stands before them.
-- The exchanged table, and numbers in it; operands and outcomes, renamed; an instruction
pub mod Exchange
pub mod Numbers
pub mod Operand
pub mod Load
pub mod Store
pub mod Outcome
pub mod Exec
-- What each instruction keeps of the D table, a scan keeps
pub mod Keeps
-- The move: a run, a scan, a series of scans
pub mod Run
pub mod Scan
pub mod Counter
pub mod Series
-- What is not marked written, and WORK, no scan changes
pub mod Spared
pub mod Targets
pub mod Kept
pub mod Work
pub mod Map
-- Files that the theorems hold of
pub mod Example
