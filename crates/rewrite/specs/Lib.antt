-- A number of four bytes put into a file; and the bytes that a move changes.
pub mod Numbers
pub mod Changed
