-- What the proofs of several functions use, and the laws of bits and groups.
mod Steps
pub mod Laws
pub mod Bytes
