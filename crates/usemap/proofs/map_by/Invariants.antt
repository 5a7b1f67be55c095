-- The loop's invariant: the words that the records passed read and write are marked.
use Rattle.ec20.specs.Devices.{ec20}
use Rattle.ec20.specs.File.{records_from}
use Rattle.marks.specs.Marked.{Passed}
use Rattle.usemap.specs.Maps.{read_by, written_by}
use Rattle.usemap.proofs.map_by.Given as goal

abbrev pub invariant-loop-k : goal.invariant-loop-k
invariant-loop-k l =
    Passed ec20 read_by (records_from l.f l.first l.count) l.k l.read × Passed ec20 written_by (records_from l.f l.first l.count) l.k l.written
