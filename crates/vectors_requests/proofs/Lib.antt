-- Bytes by a rule.
pub mod Made
