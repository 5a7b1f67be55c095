-- What is looked up of loops and jumps, and what bounds a scan's state.
pub mod Prepared
pub mod Sane
