-- What a turn of each loop does, as the definitions say it.
mod Steps
