-- At most W steps. Read Theorem and LabelRule first; what they rest on stands before them.
-- What the check says: the walk as a derivation by parts, the searches along it, the label rule, the verdict
pub mod Rows
pub mod First
pub mod Search
pub mod Opens
pub mod Home
pub mod LabelRule
pub mod Rule
pub mod Accepted
-- The small machine: what is left of a scan, that each step lowers it, that what is due is safe
pub mod Left
pub mod Bound
pub mod Due
-- The machine of the scope goes as the small one
pub mod Stack
pub mod Onward
pub mod Engine
-- Its runs, the theorems, and a file that they hold of
pub mod Runs
pub mod Theorem
pub mod Example
