-- What the step asks of an instruction.
pub mod Ready
