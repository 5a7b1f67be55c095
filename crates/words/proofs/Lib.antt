-- What the proofs of several functions use, and the laws of words and pairs.
mod Steps
pub mod Laws
