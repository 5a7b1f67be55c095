-- Maps of D words, by tests and by records.
pub mod Words
pub mod Maps
pub mod Walk
