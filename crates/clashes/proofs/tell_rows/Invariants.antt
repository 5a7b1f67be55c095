-- The loop's invariant: the pairs t of the first i rows are told, the others are to come, and there is room for as many as there can be.
use Prim.Native.Nat.{ℕ, ◌+◌, ◌-◌, ◌≤◌}
use mathlib.Core.List.{List}
use mathlib.Core.Path.{◌≡◌}
use lib.ListN.{length}
use Rattle.units.proofs.Pairs.{pairs_of}
use Rattle.clashes.specs.Rows.{pairs_from}
use Rattle.clashes.proofs.Telling.{Telling}
use Rattle.clashes.proofs.tell_rows.Given as goal

abbrev pub invariant-loop-i : goal.invariant-loop-i
invariant-loop-i l =
    (length l.report ≡ length l.initial.report) × (l.at + pairs_of (l.n - l.i) ≤ 2016)
    × ((t : List (List ℕ)) × Telling 0 (pairs_from l.of 0 l.n) l.initial.report l.at l.report (pairs_from l.of l.i (l.n - l.i)) t)
