-- The moved file is the renamed program. Read Moved first; what it rests on stands before it.
-- Numbers: extents that go along
pub mod Along
-- Bytes: the moved file, record by record
pub mod Bytes
pub mod Rows
pub mod Fit
pub mod Records
pub mod Program
-- The check of it, and what the mover has found
pub mod Alike
pub mod Accepted
pub mod Taken
pub mod Exchanged
-- The theorem, and a file that it holds of
pub mod Moved
pub mod Example
