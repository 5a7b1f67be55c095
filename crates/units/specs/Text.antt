-- "For the operator, given two lent declaration texts (eight name bytes, blank, start, blank, length, both 0 to 8000 spelt as in (i), line feed; more may
-- follow), hand back the part of whichever holds the longer block: its first line, the first text's if equal, nothing if either is misspelt."
use Rattle.std.specs.Prelude.{ℕ, ◌+◌, Bool, ◌&&◌, not, List, [], take, ltb, eqb, Some}
use Rattle.ec20.specs.Basics.{pick, some_from}
use Rattle.units.specs.Spelling.{blank, line_feed, byte_in, number_at}
use Rattle.units.specs.Number.{Number}
use Rattle.units.specs.Number as N
use Rattle.units.specs.Line.{Line}
use Rattle.units.specs.Line as L

-- "eight name bytes", none of which is a line feed, "blank": a line ends with its first line feed
unfoldable pub named : List ℕ → ℕ → Bool
named s from = not (some_from (λ (i : ℕ). eqb (byte_in s i) line_feed) from 8) && eqb (byte_in s (from + 8)) blank

-- "length .. line feed": the length was read as this, behind the start a
abbrev pub line_by_length : List ℕ → ℕ → Number → Line
line_by_length s a N.Misspelt = L.Misspelt
line_by_length s a (Some w) = pick (eqb (byte_in s w.next) line_feed) (L.Spelt a w.value (w.next + 1)) L.Misspelt

-- "start, blank": the start was read as this
abbrev pub line_by_start : List ℕ → ℕ → Number → Line
line_by_start s most N.Misspelt = L.Misspelt
line_by_start s most (Some w) = pick (eqb (byte_in s w.next) blank) (line_by_length s w.value (number_at s (w.next + 1) most)) L.Misspelt

-- the declaration that stands at a place of a text; start and length are `most` at most
unfoldable pub line_at : List ℕ → ℕ → ℕ → Line
line_at s from most = pick (named s from) (line_by_start s most (number_at s (from + 9) most)) L.Misspelt

-- "both 0 to 8000": the first line of a declaration text
abbrev pub first_line : List ℕ → Line
first_line s = line_at s 0 8000

-- which part is handed back, by the first lines of both
abbrev pub longer_by : List ℕ → List ℕ → Line → Line → List ℕ
longer_by a b L.Misspelt y = []
longer_by a b (Some w) L.Misspelt = []
longer_by a b (Some w) (Some w2) = pick (ltb w.length w2.length) (take w2.next b) (take w.next a)

-- "hand back the part of whichever holds the longer block: its first line, the first text's if equal, nothing if either is misspelt"
unfoldable pub longer_of : List ℕ → List ℕ → List ℕ
longer_of a b = longer_by a b (first_line a) (first_line b)

-- What a host is told: whose first line it is, 1 or 2 (0: nothing), and how many bytes it has.
pub record ToldLonger : Type 0 where
  pub text : ℕ
  pub size : ℕ

abbrev pub told_longer : ℕ → ℕ → ToldLonger
told_longer t n = record { text = t; size = n }

abbrev pub told_by_lines : Line → Line → ToldLonger
told_by_lines L.Misspelt y = told_longer 0 0
told_by_lines (Some w) L.Misspelt = told_longer 0 0
told_by_lines (Some w) (Some w2) = pick (ltb w.length w2.length) (told_longer 2 w2.next) (told_longer 1 w.next)

unfoldable pub told_by_longer : List ℕ → List ℕ → ToldLonger
told_by_longer a b = told_by_lines (first_line a) (first_line b)
