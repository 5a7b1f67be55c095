-- The check in stages, and what an accepted verdict says of a file.
pub mod StageLaws
pub mod Accepted
