-- How many numbers a move changed in a file.
use Rattle.std.specs.Prelude.{◌≡◌, ℕ, zero, suc, ◌<◌, List, [], ◌∷◌, length, ◌==◌, slice_index, slice_index_or}
use Rattle.ec20.specs.Basics.{pick}

-- The bytes of two files, side by side: each that differs counts, and the three after it are passed over, since they are of the same number. n bytes
-- are passed over first.
unfoldable pub changes_in : ℕ → List ℕ → List ℕ → ℕ
changes_in n [] g = 0
changes_in n (a ∷ f) [] = 0
changes_in (suc n) (a ∷ f) (b ∷ g) = changes_in n f g
changes_in zero (a ∷ f) (b ∷ g) =
    let rest = changes_in 0 f g in
    let more = changes_in 3 f g in
    pick (a == b) rest (suc more)

-- both files have a byte i, and it differs
pub record Other (f g : List ℕ) (i : ℕ) : Type 0 where
  pub one : i < length f
  pub two : i < length g
  pub apart : slice_index_or f i 0 ≡ slice_index g i → ⊥

-- it is the same, or one of them has none
abbrev pub SameAt : List ℕ → List ℕ → ℕ → Type 0
SameAt f g i = i < length f → i < length g → slice_index f i ≡ slice_index g i
