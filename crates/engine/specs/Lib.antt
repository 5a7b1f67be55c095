-- What is found out of a file once, for any number of scans of it.
pub mod Made
