-- What the proofs of several functions use.
mod Steps
mod Shifts
