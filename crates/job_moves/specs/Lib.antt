-- What is known once the check has passed, and once each line's move is granted.
pub mod Ready
