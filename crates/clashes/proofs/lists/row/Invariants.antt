-- The loop's invariant: r is the row of the places from j on.
use Prim.Native.Nat.{ℕ, ◌-◌, ◌<◌}
use mathlib.Core.Path.{◌≡◌}
use Rattle.clashes.specs.Rows.{counted, row_of}
use Rattle.clashes.proofs.lists.row.Given as goal

abbrev pub invariant-loop-j : goal.invariant-loop-j
invariant-loop-j l = (l.i < l.j) × ((k : ℕ) → l.r ≡ row_of (counted k l.list) l.i l.j (l.n - l.j))
