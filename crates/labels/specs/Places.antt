-- The places of the 128 labels as a table: one more than the label's place, 0 where it has none.
use Rattle.std.specs.Prelude.{ℕ, ◌+◌, ◌<◌, List, ◌≡◌, get_or}
use Rattle.ec20.specs.Control.{Controls, first_label}
use Rattle.ec20.specs.Found.{Found}
use Rattle.ec20.specs.Found.{At, Nowhere}

unfoldable pub one_more : Found → ℕ
one_more (At k) = k + 1
one_more Nowhere = 0

unfoldable pub Places : Controls → ℕ → List ℕ → Type 0
Places code count t = (l : ℕ) → l < 128 → get_or t l 0 ≡ one_more (first_label code count l)
