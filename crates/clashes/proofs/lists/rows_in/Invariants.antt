-- The loop's invariant: r has the rows of the first i places.
use Prim.Native.Nat.{ℕ}
use mathlib.Core.Path.{◌≡◌}
use Rattle.clashes.specs.Rows.{counted, rows_of}
use Rattle.clashes.proofs.lists.rows_in.Given as goal

abbrev pub invariant-loop-i : goal.invariant-loop-i
invariant-loop-i l = (k : ℕ) → l.r ≡ rows_of (counted k l.list) l.n l.i
