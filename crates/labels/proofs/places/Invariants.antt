use Rattle.ec20.specs.Code.{program_in}
use Rattle.ec20.specs.Control.{controls_of}
use Rattle.ec20.specs.File.{records_from}
use Rattle.labels.proofs.Table.{Filled}
use Rattle.labels.proofs.places.Given as goal

abbrev pub invariant-loop-j : goal.invariant-loop-j
invariant-loop-j l = Filled (controls_of (program_in (records_from l.f l.first l.count))) l.count l.j l.table
