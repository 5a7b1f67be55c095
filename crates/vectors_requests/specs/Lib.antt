-- What a case asks for before the call, what it wants of the answer, and what is counted.
pub mod Anew
pub mod Wants
