-- What the rung rule's state stays within.
pub mod Within
