-- What the proofs of several functions use, and the laws of the results.
mod Exact
pub mod Roots
pub mod Laws
