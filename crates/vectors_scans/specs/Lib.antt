-- What a case lends, what it wants of the answer, and what is counted.
pub mod Wants
pub mod Counted
