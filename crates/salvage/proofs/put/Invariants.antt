-- The invariant: the output has the bytes that were passed, and is as long as it was. Assumes nothing.
use lib.ListN.{length, take}
use mathlib.Core.Path.{◌≡◌}
use Rattle.ec20.specs.Buffer.{over}
use Rattle.salvage.proofs.put.Given as goal

abbrev pub invariant-loop-k : goal.invariant-loop-k
invariant-loop-k l = (l.out ≡ over l.at (take l.k l.s) l.initial.out) × (length l.out ≡ length l.initial.out)
