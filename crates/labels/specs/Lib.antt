-- What a search looks for; the tables of the places of the labels and of the records' loop bodies; a program whose structure is right.
pub mod Want
pub mod Places
pub mod Homes
pub mod Sound
