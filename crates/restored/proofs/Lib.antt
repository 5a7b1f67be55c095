-- A salvage keeps the longest run, writes a proper file, and brings accepted files back. Read Longest, Proper, Restored and Beyond first.
-- What they rest on: records of a part of a file; records with an END at their end, or with none; what an accepted file says
pub mod Records
pub mod Clean
pub mod Sound
-- The theorems, one for each file of specs/
pub mod Longest
pub mod Proper
pub mod Restored
pub mod Numbers
pub mod Beyond
-- Torn files, computed
pub mod Example
