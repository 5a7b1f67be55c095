-- The call keeps its length, and what it has of words fits. Assumes nothing.
use Rattle.std.proofs.Common.{◌≡◌, ◌≤◌, length}
use Rattle.calls.proofs.arguments.gather.Given as goal

abbrev pub invariant-loop-i : goal.invariant-loop-i
invariant-loop-i g l = (length l.call ≡ length l.initial.call) × (l.n ≤ length l.call)
