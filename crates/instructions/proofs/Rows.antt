-- The rows of the table, and a fact of each.
use Prim.Native.Nat.{ℕ, zero, suc, ◌<◌, ◌≤◌}
use mathlib.Core.Bool.{Bool, true, ◌&&◌}
use native.Mathlib.Omega.{arith}
use native.Mathlib.Decide.{ℕ_discrete}
use mathlib.Core.Path.{◌≡◌, refl, sym, ap, ◌∙◌}
use mathlib.Core.List.{List}
use lib.Dec.{eqb}
use lib.ListN.{get_or, get_or-eq_default}
use Rattle.ec20.specs.Table.{table, row_of, unknown}
use Rattle.ec20.specs.declared.Row.{Row}
use Rattle.ec20.proofs.Tests.{both}

-- row n of what is the table
pub row-at : (rows : List Row) (n : ℕ) → rows ≡ table → get_or rows n unknown ≡ row_of n
unfolding row_of
row-at rows n e = rw e refl

-- past the table
pub row-past : (n : ℕ) → 56 ≤ n → unknown ≡ row_of n
unfolding table row_of
row-past n h = sym (get_or-eq_default table unknown {n = n} h)

-- A fact of every number of the table, by a test that is computed for each.
abbrev pub every_below : (ℕ → Bool) → ℕ → Bool
every_below test zero = true
every_below test (suc n) = test n && every_below test n

pub at_every : (test : ℕ → Bool) (n : ℕ) → every_below test n ≡ true → (i : ℕ) → i < n → test i ≡ true
at_every test zero e i h = absurd (omega arith)
at_every test (suc n) e i h =
    elim (ℕ_discrete i n) [
      | yes q ↦ ap test q ∙ (both (test n) _ e).0
      | no q ↦ at_every test n (both (test n) _ e).1 i (omega arith)
    ]
