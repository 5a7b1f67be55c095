-- One word more exchanged; the exchange by its cases; what a reader expects of it.
pub mod Swaps
mod Cases
pub mod Theorems
