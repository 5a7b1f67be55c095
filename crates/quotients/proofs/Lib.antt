-- What the table and the definition say of the two divisions.
mod Divisions
