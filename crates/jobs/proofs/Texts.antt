-- Jobs as text, computed. Assumes nothing.
use Prim.Native.Nat.{ℕ}
use mathlib.Core.List.{List, [], ◌∷◌}
use mathlib.Core.Path.{◌≡◌, refl}
use Rattle.ec20.specs.Judged.{Fine, Fault}
use Rattle.units.proofs.Computing.{declarations}
use Rattle.units.specs.Reading.{Read, read}
use Rattle.jobs.specs.Text.{job_line_at, job_in}

-- a line: start, length, place
abbrev three : ℕ → ℕ → ℕ → List ℕ
three a n q = a ∷ n ∷ q ∷ []

-- the job whose first line moves D100..D105 to D200..D205, and what it has behind that
abbrev after_one : List ℕ → List ℕ
after_one s = 49 ∷ 48 ∷ 48 ∷ 32 ∷ 54 ∷ 32 ∷ 50 ∷ 48 ∷ 48 ∷ 10 ∷ s

-- that line alone; and with 15 at the line behind it
abbrev one : Read (List ℕ)
one = read Fine (three 100 6 200 ∷ [])

abbrev then-15 : Read (List ℕ)
then-15 = read (Fault 15 1) (three 100 6 200 ∷ [])

pub one_line : job_in (after_one []) ≡ one
unfolding declarations job_line_at job_in
one_line = refl

pub two-lines : job_in (after_one (55 ∷ 32 ∷ 49 ∷ 32 ∷ 48 ∷ 10 ∷ [])) ≡ read Fine (three 100 6 200 ∷ three 7 1 0 ∷ [])
unfolding declarations job_line_at job_in
two-lines = refl

-- an empty text has no line
pub no_lines : job_in [] ≡ read Fine []
unfolding declarations job_line_at job_in
no_lines = refl

-- numbers of four bytes, and one above them
pub four_bytes : job_in (52 ∷ 50 ∷ 57 ∷ 52 ∷ 57 ∷ 54 ∷ 55 ∷ 50 ∷ 57 ∷ 53 ∷ 32 ∷ 52 ∷ 50 ∷ 57 ∷ 52 ∷ 57 ∷ 54 ∷ 55 ∷ 50 ∷ 57 ∷ 53 ∷ 32 ∷ 52 ∷ 50 ∷ 57 ∷ 52 ∷ 57 ∷ 54 ∷ 55 ∷ 50 ∷ 57 ∷ 53 ∷ 10 ∷ []) ≡ read Fine (three 4294967295 4294967295 4294967295 ∷ [])
unfolding declarations job_line_at job_in
four_bytes = refl

pub above-start : job_in (after_one (52 ∷ 50 ∷ 57 ∷ 52 ∷ 57 ∷ 54 ∷ 55 ∷ 50 ∷ 57 ∷ 54 ∷ 32 ∷ 49 ∷ 32 ∷ 48 ∷ 10 ∷ [])) ≡ then-15
unfolding declarations job_line_at job_in
above-start = refl

pub above-length : job_in (after_one (55 ∷ 32 ∷ 52 ∷ 50 ∷ 57 ∷ 52 ∷ 57 ∷ 54 ∷ 55 ∷ 50 ∷ 57 ∷ 54 ∷ 32 ∷ 48 ∷ 10 ∷ [])) ≡ then-15
unfolding declarations job_line_at job_in
above-length = refl

pub above_place : job_in (after_one (55 ∷ 32 ∷ 49 ∷ 32 ∷ 52 ∷ 50 ∷ 57 ∷ 52 ∷ 57 ∷ 54 ∷ 55 ∷ 50 ∷ 57 ∷ 54 ∷ 10 ∷ [])) ≡ then-15
unfolding declarations job_line_at job_in
above_place = refl

-- what is misspelt is told by its line, of which the first is 0
pub leading-zero : job_in (after_one (48 ∷ 55 ∷ 32 ∷ 49 ∷ 32 ∷ 48 ∷ 10 ∷ [])) ≡ then-15
unfolding declarations job_line_at job_in
leading-zero = refl

pub blank-at-end : job_in (after_one (55 ∷ 32 ∷ 49 ∷ 32 ∷ 48 ∷ 32 ∷ 10 ∷ [])) ≡ then-15
unfolding declarations job_line_at job_in
blank-at-end = refl

pub two-blanks : job_in (after_one (55 ∷ 32 ∷ 32 ∷ 49 ∷ 32 ∷ 48 ∷ 10 ∷ [])) ≡ then-15
unfolding declarations job_line_at job_in
two-blanks = refl

pub blank-ahead : job_in (after_one (32 ∷ 55 ∷ 32 ∷ 49 ∷ 32 ∷ 48 ∷ 10 ∷ [])) ≡ then-15
unfolding declarations job_line_at job_in
blank-ahead = refl

pub no_place : job_in (after_one (55 ∷ 32 ∷ 49 ∷ 10 ∷ [])) ≡ then-15
unfolding declarations job_line_at job_in
no_place = refl

pub four-numbers : job_in (after_one (55 ∷ 32 ∷ 49 ∷ 32 ∷ 48 ∷ 32 ∷ 48 ∷ 10 ∷ [])) ≡ then-15
unfolding declarations job_line_at job_in
four-numbers = refl

pub not-ended : job_in (after_one (55 ∷ 32 ∷ 49 ∷ 32 ∷ 48 ∷ [])) ≡ then-15
unfolding declarations job_line_at job_in
not-ended = refl

pub empty-line : job_in (after_one (10 ∷ [])) ≡ then-15
unfolding declarations job_line_at job_in
empty-line = refl

pub carriage-return : job_in (after_one (55 ∷ 32 ∷ 49 ∷ 32 ∷ 48 ∷ 13 ∷ 10 ∷ [])) ≡ then-15
unfolding declarations job_line_at job_in
carriage-return = refl

pub sign : job_in (after_one (43 ∷ 55 ∷ 32 ∷ 49 ∷ 32 ∷ 48 ∷ 10 ∷ [])) ≡ then-15
unfolding declarations job_line_at job_in
sign = refl

-- the first that is misspelt
pub first-misspelt : job_in (120 ∷ 10 ∷ 49 ∷ 48 ∷ 48 ∷ 32 ∷ 54 ∷ 32 ∷ 50 ∷ 48 ∷ 48 ∷ 10 ∷ 120 ∷ 10 ∷ []) ≡ read (Fault 15 0) []
unfolding declarations job_line_at job_in
first-misspelt = refl
