-- The check in stages.
pub mod Stages
pub mod Accepted
