-- The checker's test and what is kept; the file that is written
mod Judged
mod Keeping
mod Copied
mod Written
mod Answered
