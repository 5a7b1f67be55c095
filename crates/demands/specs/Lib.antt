-- The three demands, each as a statement over the definitions of crates/ec20/specs.
-- Words of D and the lines 9 to 14 of the table of refusals, and those of a request
pub mod Lines
-- Steps of a scan, counted out
pub mod Steps
-- Operands, and flow and stacks, where a record is due
pub mod Named
pub mod Total
-- Scans and requests in any order
pub mod Events
-- The demands
pub mod Demand1
pub mod Demand2
pub mod Demand3
-- The entry without a budget
pub mod Budget
-- The time that timers are given
pub mod Time
