-- The loop's invariant: the words passed are marked.
use mathlib.Core.Path.{◌≡◌}
use Rattle.marks.specs.Marked.{marking}
use Rattle.marks.proofs.mark.Given as goal

abbrev pub invariant-loop-k : goal.invariant-loop-k
invariant-loop-k l = l.map ≡ marking l.initial.map l.start l.k
