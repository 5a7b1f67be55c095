-- At most W steps, and safe at each: what is promised.
-- Loops and jumps alone: the small machine, and the machine of the scope seen so
pub mod Small
-- What the check's acceptance means for loops and jumps
pub mod Right
-- What holds where a record is due, and at END
pub mod Safe
-- What holds of a whole scan
pub mod Scans
