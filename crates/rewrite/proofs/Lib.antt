-- A number put into the bytes; an operand, a record, records moved; and that nothing else changes.
mod Put
mod NumberLaws
mod OperandLaws
mod RecordLaws
mod RecordsLaws
pub mod Theorems
