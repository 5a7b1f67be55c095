-- `spelling::number` meets its contract. The loop's invariant: what was read are the digits up to k of them. Assumes nothing.
use mathlib.Core.Path.{◌≡◌}
use Rattle.units.specs.Spelling.{digits_of}
use Rattle.spelling.proofs.number.Given as goal

abbrev pub invariant-loop-k : goal.invariant-loop-k
invariant-loop-k l = l.d ≡ digits_of l.s l.from l.k
