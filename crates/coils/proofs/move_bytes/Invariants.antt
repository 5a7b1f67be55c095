-- The invariant: the first j bytes are moved, and the table keeps its length. Assumes nothing.
use lib.ListN.{length}
use mathlib.Core.Path.{◌≡◌}
use Rattle.coils.specs.Moved.{bytes_moved}
use Rattle.coils.proofs.move_bytes.Given as goal

abbrev pub invariant-loop-j : goal.invariant-loop-j
invariant-loop-j l = (l.to ≡ bytes_moved l.initial.to l.at l.from l.i l.j) × (length l.to ≡ length l.initial.to)
