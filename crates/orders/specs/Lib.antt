-- "Two moves, either order, and back": the premises, and what is promised of two moves and of one there and back
pub mod Two
-- Any list of such moves, in any order
pub mod Any
-- What is told of a job, and a job that is done
pub mod Numbers
pub mod Jobs
