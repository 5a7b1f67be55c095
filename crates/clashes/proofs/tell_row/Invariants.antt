-- The loop's invariant: the pairs t are told, and the rest of the row is to come.
use Prim.Native.Nat.{ℕ, ◌+◌, ◌-◌, ◌≤◌}
use mathlib.Core.List.{List}
use mathlib.Core.Path.{◌≡◌}
use lib.ListN.{length}
use Rattle.clashes.specs.Rows.{pairs_in}
use Rattle.clashes.proofs.Telling.{Telling}
use Rattle.clashes.proofs.tell_row.Given as goal

abbrev pub invariant-loop-j : goal.invariant-loop-j
invariant-loop-j l =
    (length l.report ≡ length l.initial.report)
    × ((t : List (List ℕ)) × ((length t + (l.i + 1) ≤ l.j) × Telling l.from (pairs_in l.row l.i (l.i + 1) (l.n - (l.i + 1))) l.initial.report l.at l.report
    (pairs_in l.r l.i l.j (l.n - l.j)) t))
