-- Runs of D words by their marks.
use Rattle.std.specs.Prelude.{ℕ, zero, suc, ◌+◌, ◌-◌, ◌*◌, List, ◌==◌}
use Rattle.ec20.specs.Basics.{pick}
use Rattle.ec20.specs.Bits.{bit_at}

-- "1 for a word that is read, and 2 more for one that is written."
abbrev pub marks_of : List ℕ → List ℕ → ℕ → ℕ
marks_of read written i = bit_at read i + 2 * bit_at written i

-- the first of the n numbers from i on at which f is not k; the one after them where there is none
unfoldable pub other_from : (ℕ → ℕ) → ℕ → ℕ → ℕ → ℕ
other_from f k i zero = i
other_from f k i (suc n) =
    let later = other_from f k (suc i) n in
    pick (f i == k) later i

-- "The first word from i on, itself left out, with other marks than k; 8000 where there is none."
abbrev pub run_end : List ℕ → List ℕ → ℕ → ℕ → ℕ
run_end read written i k = other_from (marks_of read written) k (i + 1) (8000 - (i + 1))
