mod Runs
mod Rows
mod Hex
mod Nameless
