-- A rule that is computed over the rows of the table holds of the row of every number. Assumes nothing.
use Prim.Native.Nat.{ℕ, zero, suc, ◌+◌}
use mathlib.Core.Bool.{Bool, true, ◌&&◌}
use mathlib.Core.List.{List, [], ◌∷◌}
use mathlib.Core.Path.{◌≡◌, subst}
use native.Mathlib.Omega.{arith}
use lib.ListN.{get_or}
use Rattle.ec20.proofs.Tests.{both}
use Rattle.ec20.specs.Table.{table, unknown, row_of}
use Rattle.ec20.specs.declared.Row.{Row}

-- the test holds of each row, at its number
abbrev pub every : (ℕ → Row → Bool) → ℕ → List Row → Bool
every test k [] = true
every test k (w ∷ l) = test k w && every test (suc k) l

at_row : (test : ℕ → Row → Bool) → ((n : ℕ) → test n unknown ≡ true) → (l : List Row) (k n : ℕ) → every test k l ≡ true
    → test (k + n) (get_or l n unknown) ≡ true
at_row test u [] k n e = u (k + n)
at_row test u (w ∷ l) k zero e =
    let z : k ≡ k + 0 = omega arith in
    subst (λ (i : ℕ). test i w ≡ true) z (both (test k w) (every test (suc k) l) e).0
at_row test u (w ∷ l) k (suc n) e =
    let z : suc k + n ≡ k + suc n = omega arith in
    subst (λ (i : ℕ). test i (get_or l n unknown) ≡ true) z (at_row test u l (suc k) n (both (test k w) (every test (suc k) l) e).1)

-- so it holds of the row of a number
pub row-test : (test : ℕ → Row → Bool) → ((n : ℕ) → test n unknown ≡ true) → every test 0 table ≡ true → (n : ℕ) → test n (row_of n) ≡ true
unfolding row_of
row-test test u e n =
    let z : 0 + n ≡ n = omega arith in
    subst (λ (i : ℕ). test i (row_of n) ≡ true) z (at_row test u table 0 n e)
