-- A job as text (ours): a line for each task, `START LENGTH PLACE`, numbers spelt as in (i), each of four bytes, one blank between, and a line feed. A line
-- that is not so spelt is 15.
use Rattle.std.specs.Prelude.{ℕ, ◌+◌, List, [], ◌∷◌, eqb, length, Some}
use Rattle.ec20.specs.Basics.{pick}
use Rattle.units.specs.Reading.{Entry, misspelt, spelt, Read, lines_of}
use Rattle.units.specs.Spelling.{blank, line_feed, byte_in, number_at}
use Rattle.units.specs.Number.{Number}
use Rattle.units.specs.Number as N
use Rattle.jobs.specs.JobLine.{JobLine}
use Rattle.jobs.specs.JobLine as J

-- the most that a number of four bytes says
abbrev pub most : ℕ
most = 4294967295

-- "PLACE", line feed: the place was read as this, behind the start a and the length n
abbrev pub line_by_place : List ℕ → ℕ → ℕ → Number → JobLine
line_by_place s a n N.Misspelt = J.Misspelt
line_by_place s a n (Some w) = pick (eqb (byte_in s w.next) line_feed) (J.Spelt a n w.value (w.next + 1)) J.Misspelt

-- "LENGTH", blank: the length was read as this, behind the start a
abbrev pub line_by_length : List ℕ → ℕ → Number → JobLine
line_by_length s a N.Misspelt = J.Misspelt
line_by_length s a (Some w) = pick (eqb (byte_in s w.next) blank) (line_by_place s a w.value (number_at s (w.next + 1) most)) J.Misspelt

-- "START", blank: the start was read as this
abbrev pub line_by_start : List ℕ → Number → JobLine
line_by_start s N.Misspelt = J.Misspelt
line_by_start s (Some w) = pick (eqb (byte_in s w.next) blank) (line_by_length s w.value (number_at s (w.next + 1) most)) J.Misspelt

-- the line that begins at a place of a text
unfoldable pub job_line_at : List ℕ → ℕ → JobLine
job_line_at s from = line_by_start s (number_at s from most)

-- a line as an entry of three numbers
abbrev pub three_of : JobLine → Entry (List ℕ)
three_of J.Misspelt = misspelt
three_of (Some w) = spelt (w.start ∷ w.length ∷ w.place ∷ []) w.next

-- a whole job: the first line that is misspelt (15), and the tasks ahead of it, three numbers each
unfoldable pub job_in : List ℕ → Read (List ℕ)
job_in s = lines_of (λ from. three_of (job_line_at s from)) (length s)
