-- Refusals 1 to 14 at the edges of the scope, computed.
pub mod Refusals
