-- The signs so far stand in the row. Assumes nothing.
use Rattle.std.proofs.Common.{ℕ, ◌+◌}
use Rattle.telling.proofs.Rows.{Rowing}
use Rattle.telling.specs.Picture.{sign_of}
use Rattle.telling.proofs.picture.fill.Given as goal

abbrev pub invariant-loop-i : goal.invariant-loop-i
invariant-loop-i l = Rowing (λ (k : ℕ). sign_of l.read l.written (l.first + k)) l.i l.initial.to l.to
