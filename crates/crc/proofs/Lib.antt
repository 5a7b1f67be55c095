-- What the proofs of the functions use.
mod Folds
mod Linear
mod Tables
mod Takes
mod Turns
mod Xor
