-- The loop's invariant: the loop bodies of the first k records are told, and home is that of record k.
use Rattle.ec20.specs.Code.{program_in}
use Rattle.ec20.specs.Control.{controls_of}
use Rattle.ec20.specs.File.{records_from}
use Rattle.labels.proofs.Bodies.{Filled}
use Rattle.labels.proofs.homes.Given as goal

abbrev pub invariant-loop-k : goal.invariant-loop-k
invariant-loop-k l = Filled (controls_of (program_in (records_from l.f l.first l.count))) l.k l.home l.table
