-- Lines that meet; line by line; the file moved, and the table exchanged, line by line; the job by its cases.
mod Meeting
mod Judging
mod Moving
mod Exchanging
mod Granting
mod Cases
