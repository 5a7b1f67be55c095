pub mod Laws
pub mod Within
pub mod Tables
pub mod Bounds
