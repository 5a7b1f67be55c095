-- What the programs on case files share: bytes that are copied, counts, the checksum, and memories made by rule.
pub mod Filled
pub mod Summed
pub mod Drawn
