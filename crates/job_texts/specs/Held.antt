-- What is held of a job that was read: the judgement, and how many lines there are.
use Rattle.std.specs.Prelude.{ℕ, ◌<◌, ◌≤◌, List, length, Some}
use Rattle.jobs.specs.JobLine.{JobLine}
use Rattle.jobs.specs.JobLine as J
use Rattle.units.specs.Reading.{Read}
use Rattle.job_texts.specs.declared.Lines.{Lines}

-- a line of a text of n bytes, which begins at a place: how large its numbers are, and that its end stands in the text, after that place
abbrev pub JobLineIn : ℕ → ℕ → JobLine → Type 0
JobLineIn n from J.Misspelt = Unit {0}
JobLineIn n from (Some w) = (w.start ≤ 4294967295) × (w.length ≤ 4294967295) × (w.place ≤ 4294967295) × (from < w.next) × (w.next ≤ n)

-- what is held of what was read
unfoldable pub held_of : Read (List ℕ) → Lines
held_of r = record { fault = r.fault; count = length r.list }
