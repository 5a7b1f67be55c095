-- Constants as bits; one turn of a loop that looks for the first fault; what a place allows, by its role; what a source and a target may be, by
-- the operand's kind.
pub mod Constants
pub mod First
mod Roles
mod ByKind
