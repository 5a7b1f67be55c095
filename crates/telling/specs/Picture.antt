-- "The 8,000 D words as a grid of 100 words to a row."
use Rattle.std.specs.Prelude.{◌≡◌, ℕ, ◌+◌, ◌-◌, ◌*◌, ◌/◌, ◌%◌, ◌<◌, List, [], ◌∷◌, length, get_or, ◌==◌, nat_lt, slice_index, slice_index_or}
use Rattle.ec20.specs.Basics.{pick}
use Rattle.telling.specs.Spans.{marks_of, run_end}

-- "The sign of word i", by its marks: . for a free word, or # in WORK; r, w, and b for both
unfoldable pub sign_by : ℕ → ℕ → ℕ
sign_by i m = slice_index_or (pick (nat_lt i 7900) 46 35 ∷ 114 ∷ 119 ∷ []) m 98

abbrev pub sign_of : List ℕ → List ℕ → ℕ → ℕ
sign_of read written i = sign_by i (marks_of read written i)

-- "The signs of the 100 words from `first` on, a blank ahead of each ten, and the line's end": f tells the signs, and b is the buffer before, whose blanks
-- stay
pub record Row (f : ℕ → ℕ) (b t : List ℕ) : Type 0 where
  pub size : length t ≡ 111
  pub signs : (i : ℕ) → i < 100 → slice_index t (i + i / 10 + 1) ≡ f i
  pub blanks : (k : ℕ) → k < 10 → slice_index t (11 * k) ≡ slice_index b (11 * k)
  pub ended : get_or t 110 0 ≡ 10

-- "Where the free rows from the row of `first` on end: that row itself where it is not free. WORK is shown": e is where the run of free words ends
abbrev pub rows_to : ℕ → ℕ
rows_to e = pick (nat_lt 7900 e) 7900 (e - e % 100)

unfoldable pub free_rows : List ℕ → List ℕ → ℕ → ℕ
free_rows read written first = pick (marks_of read written first == 0) (rows_to (run_end read written first 0)) first
