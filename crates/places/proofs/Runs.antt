-- The lowest run of words that pass a test: one pass with a count of those in a row. Assumes nothing.
use Prim.Native.Nat.{ℕ, ◌+◌, ◌≤◌, ◌<◌}
use mathlib.Core.Bool.{Bool, true}
use mathlib.Core.Path.{◌≡◌}
use Rattle.places.specs.Runs.{Clear}

-- Before word i, from a on: `run` words in a row pass, which are fewer than n, and no n words pass that begin before these.
pub record Run (test : ℕ → Bool) (a n i run : ℕ) : Type 0 where
  pub low : a + run ≤ i
  pub short : run < n
  pub clear : (j : ℕ) → j < i → i ≤ j + run → test j ≡ true
  pub none : (q : ℕ) → a ≤ q → q + run < i → Clear test q n → ⊥
