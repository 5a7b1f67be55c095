-- As many cases differ as were run, at most. Assumes nothing.
use Prim.Native.Nat.{◌≤◌}
use Rattle.cases.proofs.program.section.Given as goal

abbrev pub invariant-loop-i : goal.invariant-loop-i
invariant-loop-i g l = l.differ ≤ l.i
