-- What a caller of `walk` needs; then the laws behind the walkers.
pub mod Told
mod Ends
mod Laws
