-- The counts of a case, and what stands in a report before a call.
pub mod Counted
pub mod Seeded
