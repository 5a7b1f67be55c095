-- The loop's invariant: the first i pairs are filled, and v is the first number of the next. Assumes nothing.
use Rattle.std.proofs.Common.{◌≡◌, ◌+◌, ◌*◌, ◌%◌, ◌^◌}
use Rattle.cases.proofs.Filling.{Filling}
use Rattle.vectors_units.specs.Seeded.{pair_by}
use Rattle.vectors_units.proofs.reports.fill.Given as goal

abbrev pub invariant-loop-i : goal.invariant-loop-i
invariant-loop-i l = (Filling l.initial.r l.i (λ j. pair_by l.seed j) l.r) × (l.v ≡ (l.seed + 2 * l.i) % 2 ^ 32)
