-- "Record told" is "first": the lowest record of which a line holds.
use Rattle.std.specs.Prelude.{ℕ, ◌<◌}

-- of `count` records, k is the first of which the line holds
pub record First (count : ℕ) (line : ℕ → Type 0) (k : ℕ) : Type 0 where
  pub inside : k < count
  pub holds : line k
  pub before : (j : ℕ) → j < k → line j → ⊥

-- of `count` records, the line holds of none
abbrev pub Never : ℕ → (ℕ → Type 0) → Type 0
Never count line = (j : ℕ) → j < count → line j → ⊥
