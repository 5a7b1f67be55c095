-- The loop's invariant: so many free words in a row end before word i, and no run of `size` begins before these.
use Rattle.ec20.specs.Devices.{ec20}
use Rattle.ec20.specs.Move.{block}
use Rattle.places.specs.Runs.{free}
use Rattle.places.proofs.Runs.{Run}
use Rattle.places.proofs.lowest.Given as goal

abbrev pub invariant-loop-i : goal.invariant-loop-i
invariant-loop-i l = Run (free ec20 l.used (block l.start l.size)) l.from l.size l.i l.run
