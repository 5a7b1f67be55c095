-- The EC20 machine, one module for each section of the scope. Read them in this order.
-- The answers, as what is right or a refusal: of a judgement, a search, the frame, the check, a walk, a scan, the map, the move, the exchange
pub mod Judged
pub mod Found
pub mod Frame
pub mod Verdict
pub mod Walked
pub mod Scanned
pub mod Mapped
pub mod Moved
pub mod Exchanged
-- What every section uses
pub mod Basics
-- What the base holds: devices and WORK; numbers over the width; packed bits and groups; D words and pairs
pub mod Devices
pub mod Numbers
pub mod Bits
pub mod Registers
-- Instructions: their mnemonics; the table, with each operand's role, width and extent, and what it is written in: roles, forms
pub mod Mnemonics
pub mod Roles
pub mod Forms
pub mod Table
-- The program file: frame (1), record, operand; its trailer as it is written
pub mod File
pub mod Written
-- Operands: 2, 3, 4, and the first bad record
pub mod Operands
-- Records as instructions, a file as a program, and what loops and jumps see of it
pub mod Code
pub mod Control
-- The rung rule (5), loops and W (6, 8), labels (7), and the check over them
pub mod Rung
pub mod Loops
pub mod Labels
pub mod Check
-- Memory, with load and store of operands; word instructions; power flow; timers; a step; the leftovers of the timers; a scan (9)
pub mod Memory
pub mod Words
pub mod Flow
pub mod Timers
pub mod Step
pub mod Plant
pub mod Scan
-- The use map; the move (10 to 14); the exchange
pub mod UseMap
pub mod Move
pub mod Exchange
-- Bytes in a lent buffer, and what stays
pub mod Buffer
-- Each answer in the scope's numbers
pub mod Answers
-- How the code goes about 6, 7 and W. Nothing above uses it
pub mod Walkers
