-- What split, a call over the tables, and join come to: of any call, of an exchange, of a request.
pub mod After
mod Exchanging
mod Answering
