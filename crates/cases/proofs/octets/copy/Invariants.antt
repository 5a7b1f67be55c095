-- The loop's invariant: the first i bytes are copied. Assumes nothing.
use Rattle.ec20.specs.File.{byte_at}
use Rattle.cases.proofs.Filling.{Filling}
use Rattle.cases.proofs.octets.copy.Given as goal

abbrev pub invariant-loop-i : goal.invariant-loop-i
invariant-loop-i l = Filling l.initial.to l.i (λ j. byte_at l.from j) l.to
