-- What is kept is the longest such run, and END is added where it has none
pub mod Longest
-- The file that is written is a proper one, and salvaging it again changes nothing
pub mod Proper
-- Accepted files come back: whole ones, with another trailer, and cut ones
pub mod Restored
-- What is told, line by line
pub mod Numbers
-- What stands behind 2,001 records plays no part
pub mod Beyond
