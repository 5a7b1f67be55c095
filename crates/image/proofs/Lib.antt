-- Tables filled entry by entry, where each stands in a memory file, and that splitting and joining are each other's inverse.
pub mod Filling
mod Sections
pub mod Inverse
