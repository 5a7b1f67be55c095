-- Jobs: laws over the definitions, when a job is done, and computed cases.
pub mod Laws
pub mod Accepts
pub mod Computing
pub mod Known
pub mod Texts
