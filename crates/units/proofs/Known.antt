-- Declarations, lists and texts, computed. Assumes nothing.
use Prim.Native.Nat.{ℕ}
use mathlib.Core.Bool.{true, false}
use mathlib.Core.List.{List, [], ◌∷◌}
use mathlib.Core.Path.{◌≡◌, refl}
use lib.ListN.{replicate}
use Rattle.ec20.specs.Judged.{Fine, Fault}
use Rattle.units.specs.Clash.{listed, clash_of}
use Rattle.units.specs.Report.{pair, clashes_of, judge_clashes, report_of, reported}
use Rattle.units.specs.Text.{first_line, longer_of}
use Rattle.units.specs.Listed.{units_of}
use Rattle.units.specs.Reading.{read}
use Rattle.units.specs.Clashed.{Refused, Clashes}
use Rattle.units.specs.declared.Declaration.{Declaration}
use Rattle.units.specs.Line as L
use Rattle.units.proofs.Computing.{declarations}

-- names: MIXER and three blanks, and the same with another eighth byte
abbrev mixer : List ℕ
mixer = 77 ∷ 73 ∷ 88 ∷ 69 ∷ 82 ∷ 32 ∷ 32 ∷ 32 ∷ []

abbrev mixer2 : List ℕ
mixer2 = 77 ∷ 73 ∷ 88 ∷ 69 ∷ 82 ∷ 32 ∷ 32 ∷ 50 ∷ []

abbrev by : ℕ → List ℕ → ℕ → ℕ → Declaration
by u name s n = record { unit = u; name = name; start = s; length = n }

-- the mixer's mistake: one block, one of them a word longer
pub one-word-longer : clash_of (by 1 mixer 100 6) (by 2 mixer 100 7) ≡ true
unfolding declarations
one-word-longer = refl

-- the same name and the same block, of two units or of one
pub same_block : clash_of (by 1 mixer 100 6) (by 2 mixer 100 6) ≡ false
unfolding declarations
same_block = refl

-- the same name, words that lie apart
pub another-start : clash_of (by 1 mixer 100 6) (by 1 mixer 200 6) ≡ true
unfolding declarations
another-start = refl

-- names that differ in the eighth byte: adjacent blocks, and an overlap by one word
pub adjacent : clash_of (by 1 mixer 100 6) (by 2 mixer2 106 7) ≡ false
unfolding declarations
adjacent = refl

pub by-one-word : clash_of (by 1 mixer 100 6) (by 2 mixer2 105 7) ≡ true
unfolding declarations
by-one-word = refl

-- the same words under two names
pub two_names : clash_of (by 1 mixer 100 6) (by 1 mixer2 100 6) ≡ true
unfolding declarations
two_names = refl

-- four declarations: places 0 and 1 have one name, 2 and 3 are one declaration, which meets both
abbrev four : List Declaration
four = by 1 mixer 100 6 ∷ by 2 mixer 100 7 ∷ by 3 mixer2 105 2 ∷ by 3 mixer2 105 2 ∷ []

pub four-clashes : clashes_of (listed four) ≡ pair 0 1 ∷ pair 0 2 ∷ pair 0 3 ∷ pair 1 2 ∷ pair 1 3 ∷ []
unfolding declarations
four-clashes = refl

-- "refuse only a list over 64 or an empty or out-of-range block (10), then a report under 2,016 pairs (16)"
pub no_room : report_of (listed four) (replicate 2015 (pair 7 7)) ≡ reported (Refused 16 0) (replicate 2015 (pair 7 7))
unfolding declarations
no_room = refl

pub ten-first : report_of (listed (by 1 mixer 100 0 ∷ [])) [] ≡ reported (Refused 10 0) []
unfolding declarations
ten-first = refl

pub past_the_end : judge_clashes (listed (by 1 mixer 7999 2 ∷ [])) [] ≡ Fault 10 0
unfolding declarations
past_the_end = refl

-- words of WORK may be declared
pub in_work : judge_clashes (listed (by 1 mixer 7900 100 ∷ [])) [] ≡ Fault 16 0
unfolding declarations
in_work = refl

pub sixty-five : judge_clashes (listed (replicate 65 (by 1 mixer 100 6))) [] ≡ Fault 10 0
unfolding declarations
sixty-five = refl

pub sixty-four : judge_clashes (listed (replicate 64 (by 1 mixer 100 6))) [] ≡ Fault 16 0
unfolding declarations
sixty-four = refl

-- an empty list has no clash
pub none_clash : report_of (listed []) (replicate 2016 (pair 7 7)) ≡ reported (Clashes 0) (replicate 2016 (pair 7 7))
unfolding declarations
none_clash = refl

-- declaration texts: the mixer's two, with more behind the second
abbrev six : List ℕ
six = 77 ∷ 73 ∷ 88 ∷ 69 ∷ 82 ∷ 32 ∷ 32 ∷ 32 ∷ 32 ∷ 49 ∷ 48 ∷ 48 ∷ 32 ∷ 54 ∷ 10 ∷ []

abbrev seven : List ℕ
seven = 77 ∷ 73 ∷ 88 ∷ 69 ∷ 82 ∷ 32 ∷ 32 ∷ 32 ∷ 32 ∷ 49 ∷ 48 ∷ 48 ∷ 32 ∷ 55 ∷ 10 ∷ 109 ∷ 111 ∷ 114 ∷ 101 ∷ []

pub longer-second : longer_of six seven ≡ 77 ∷ 73 ∷ 88 ∷ 69 ∷ 82 ∷ 32 ∷ 32 ∷ 32 ∷ 32 ∷ 49 ∷ 48 ∷ 48 ∷ 32 ∷ 55 ∷ 10 ∷ []
unfolding declarations
longer-second = refl

pub longer-first : longer_of seven six ≡ 77 ∷ 73 ∷ 88 ∷ 69 ∷ 82 ∷ 32 ∷ 32 ∷ 32 ∷ 32 ∷ 49 ∷ 48 ∷ 48 ∷ 32 ∷ 55 ∷ 10 ∷ []
unfolding declarations
longer-first = refl

-- "the first text's if equal", also where it starts elsewhere
pub longer-equal : longer_of (65 ∷ 32 ∷ 32 ∷ 32 ∷ 32 ∷ 32 ∷ 32 ∷ 32 ∷ 32 ∷ 50 ∷ 48 ∷ 48 ∷ 32 ∷ 55 ∷ 10 ∷ []) seven ≡ 65 ∷ 32 ∷ 32 ∷ 32 ∷ 32 ∷ 32 ∷ 32 ∷ 32 ∷ 32 ∷ 50 ∷ 48 ∷ 48 ∷ 32 ∷ 55 ∷ 10 ∷ []
unfolding declarations
longer-equal = refl

-- "nothing if either is misspelt"
pub leading-zero : longer_of seven (77 ∷ 73 ∷ 88 ∷ 69 ∷ 82 ∷ 32 ∷ 32 ∷ 32 ∷ 32 ∷ 48 ∷ 49 ∷ 48 ∷ 48 ∷ 32 ∷ 54 ∷ 10 ∷ []) ≡ []
unfolding declarations
leading-zero = refl

pub over-8000 : longer_of seven (77 ∷ 73 ∷ 88 ∷ 69 ∷ 82 ∷ 32 ∷ 32 ∷ 32 ∷ 32 ∷ 56 ∷ 48 ∷ 48 ∷ 49 ∷ 32 ∷ 54 ∷ 10 ∷ []) ≡ []
unfolding declarations
over-8000 = refl

pub no-line-feed : longer_of seven (77 ∷ 73 ∷ 88 ∷ 69 ∷ 82 ∷ 32 ∷ 32 ∷ 32 ∷ 32 ∷ 49 ∷ 48 ∷ 48 ∷ 32 ∷ 54 ∷ []) ≡ []
unfolding declarations
no-line-feed = refl

pub no_length : longer_of seven (77 ∷ 73 ∷ 88 ∷ 69 ∷ 82 ∷ 32 ∷ 32 ∷ 32 ∷ 32 ∷ 49 ∷ 48 ∷ 48 ∷ 32 ∷ 10 ∷ []) ≡ []
unfolding declarations
no_length = refl

pub minus-nought : longer_of seven (77 ∷ 73 ∷ 88 ∷ 69 ∷ 82 ∷ 32 ∷ 32 ∷ 32 ∷ 32 ∷ 49 ∷ 48 ∷ 48 ∷ 32 ∷ 45 ∷ 48 ∷ 10 ∷ []) ≡ []
unfolding declarations
minus-nought = refl

pub two-blanks : longer_of seven (77 ∷ 73 ∷ 88 ∷ 69 ∷ 82 ∷ 32 ∷ 32 ∷ 32 ∷ 32 ∷ 32 ∷ 49 ∷ 48 ∷ 48 ∷ 32 ∷ 54 ∷ 10 ∷ []) ≡ []
unfolding declarations
two-blanks = refl

pub feed-in-name : longer_of seven (77 ∷ 73 ∷ 88 ∷ 10 ∷ 82 ∷ 32 ∷ 32 ∷ 32 ∷ 32 ∷ 49 ∷ 48 ∷ 48 ∷ 32 ∷ 54 ∷ 10 ∷ []) ≡ []
unfolding declarations
feed-in-name = refl

pub to-8000 : first_line (77 ∷ 73 ∷ 88 ∷ 69 ∷ 82 ∷ 32 ∷ 32 ∷ 32 ∷ 32 ∷ 48 ∷ 32 ∷ 56 ∷ 48 ∷ 48 ∷ 48 ∷ 10 ∷ []) ≡ L.Spelt 0 8000 16
unfolding declarations
to-8000 = refl

-- unit lists: two lines, a third that is misspelt, none, a last line that is not ended
pub two-units : units_of (49 ∷ 32 ∷ 77 ∷ 73 ∷ 88 ∷ 69 ∷ 82 ∷ 32 ∷ 32 ∷ 32 ∷ 32 ∷ 49 ∷ 48 ∷ 48 ∷ 32 ∷ 54 ∷ 10 ∷ 50 ∷ 32 ∷ 77 ∷ 73 ∷ 88 ∷ 69 ∷ 82 ∷ 32 ∷ 32 ∷ 32 ∷ 32 ∷ 49 ∷ 48 ∷ 48 ∷ 32 ∷ 55 ∷ 10 ∷ []) ≡ read Fine (by 1 mixer 100 6 ∷ by 2 mixer 100 7 ∷ [])
unfolding declarations
two-units = refl

pub third-misspelt : units_of (49 ∷ 32 ∷ 77 ∷ 73 ∷ 88 ∷ 69 ∷ 82 ∷ 32 ∷ 32 ∷ 32 ∷ 32 ∷ 49 ∷ 48 ∷ 48 ∷ 32 ∷ 54 ∷ 10 ∷ 50 ∷ 32 ∷ 77 ∷ 73 ∷ 88 ∷ 69 ∷ 82 ∷ 32 ∷ 32 ∷ 32 ∷ 32 ∷ 49 ∷ 48 ∷ 48 ∷ 32 ∷ 55 ∷ 10 ∷ 54 ∷ 53 ∷ 53 ∷ 51 ∷ 54 ∷ 32 ∷ 77 ∷ 73 ∷ 88 ∷ 69 ∷ 82 ∷ 32 ∷ 32 ∷ 32 ∷ 32 ∷ 49 ∷ 48 ∷ 48 ∷ 32 ∷ 55 ∷ 10 ∷ []) ≡ read (Fault 15 2) (by 1 mixer 100 6 ∷ by 2 mixer 100 7 ∷ [])
unfolding declarations
third-misspelt = refl

pub no_units : units_of [] ≡ read Fine []
unfolding declarations
no_units = refl

pub not-ended : units_of (49 ∷ 32 ∷ 77 ∷ 73 ∷ 88 ∷ 69 ∷ 82 ∷ 32 ∷ 32 ∷ 32 ∷ 32 ∷ 49 ∷ 48 ∷ 48 ∷ 32 ∷ 54 ∷ []) ≡ read (Fault 15 0) []
unfolding declarations
not-ended = refl

-- START and LENGTH are numbers of four bytes
pub four_bytes : units_of (48 ∷ 32 ∷ 77 ∷ 73 ∷ 88 ∷ 69 ∷ 82 ∷ 32 ∷ 32 ∷ 32 ∷ 32 ∷ 52 ∷ 50 ∷ 57 ∷ 52 ∷ 57 ∷ 54 ∷ 55 ∷ 50 ∷ 57 ∷ 53 ∷ 32 ∷ 52 ∷ 50 ∷ 57 ∷ 52 ∷ 57 ∷ 54 ∷ 55 ∷ 50 ∷ 57 ∷ 53 ∷ 10 ∷ []) ≡ read Fine (by 0 mixer 4294967295 4294967295 ∷ [])
unfolding declarations
four_bytes = refl

pub five-bytes : units_of (48 ∷ 32 ∷ 77 ∷ 73 ∷ 88 ∷ 69 ∷ 82 ∷ 32 ∷ 32 ∷ 32 ∷ 32 ∷ 52 ∷ 50 ∷ 57 ∷ 52 ∷ 57 ∷ 54 ∷ 55 ∷ 50 ∷ 57 ∷ 54 ∷ 32 ∷ 49 ∷ 10 ∷ []) ≡ read (Fault 15 0) []
unfolding declarations
five-bytes = refl
