-- A job in a memory file, from what its calls give.
mod Images
