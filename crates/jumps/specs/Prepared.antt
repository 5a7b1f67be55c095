-- Where each record goes, looked up once for a run: a FOR to its NEXT, a CJ to its label, past the program where there is none. Any other has 0.
use Rattle.std.specs.Prelude.{ℕ, List, ◌≡◌, get_or}
use Rattle.ec20.specs.Control.{Controls, next_of_for, first_label, or_past}
use Rattle.ec20.specs.declared.Control.{Control}
use Rattle.ec20.specs.declared.Control.TheVariants.{Plain, Opens, Closes, Jumps, Marks, Ends}

-- where record k goes
unfoldable pub goes_to : Controls → ℕ → ℕ → Control → ℕ
goes_to code count k Plain = 0
goes_to code count k (Opens n) = or_past count (next_of_for code count k)
goes_to code count k Closes = 0
goes_to code count k (Jumps l) = or_past count (first_label code count l)
goes_to code count k (Marks l) = 0
goes_to code count k Ends = 0

unfoldable pub Prepared : Controls → ℕ → List ℕ → Type 0
Prepared code count t = (k : ℕ) → get_or t k 0 ≡ goes_to code count k (code k)
