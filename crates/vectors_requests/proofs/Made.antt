-- One of the rules 0 to 5 makes the same of any bytes of a length. Assumes nothing.
use Prim.Native.Nat.{ℕ, zero, suc, ◌<◌, ◌≤◌}
use mathlib.Core.List.{List, [], ◌∷◌}
use mathlib.Core.Path.{◌≡◌, refl, ap, ◌∙◌}
use native.Mathlib.Nat.{not-suc-le-zero, le_of_suc-le-suc}
use native.Mathlib.Omega.{arith}
use lib.ListN.{length, get_or}
use Rattle.cases.specs.Drawn.{ruled, filled_by}
use Rattle.vectors_requests.specs.Anew.{made_by}

-- within a list it does not matter what lies past the end
within : {A : Type 0} (l : List A) (i : ℕ) (a b : A) → i < length l → get_or l i a ≡ get_or l i b
within [] i a b h = absurd (not-suc-le-zero h)
within (x ∷ l) zero a b h = refl
within (x ∷ l) (suc i) a b h = within l i a b (le_of_suc-le-suc h)

pub made : (rule bits seed n : ℕ) (b : List ℕ) → rule ≤ 5 → length b ≡ n → filled_by rule bits seed b ≡ made_by rule bits seed n
unfolding filled_by made_by ruled
made rule bits seed n b h e =
    ap (λ (k : ℕ). get_or (ruled k bits seed) rule b) e ∙ within (ruled n bits seed) rule b [] (omega arith)
