-- What a table of two leftovers is, and what becomes of it.
mod Laws
