-- What is known once the check and 10 and 11 have passed.
pub mod Ready
