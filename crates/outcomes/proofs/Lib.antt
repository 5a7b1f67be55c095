-- Which numbers the table's word instructions have.
pub mod Numbers
-- What an outcome has and has not, and that it fits its width.
pub mod Outcomes
-- An arm of a word instruction: what its calls give, put together, over the width.
pub mod Arms
