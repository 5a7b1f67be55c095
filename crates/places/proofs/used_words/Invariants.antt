-- The loop's invariant: the words that the operands of the records passed hold are marked.
use Rattle.ec20.specs.Devices.{ec20}
use Rattle.ec20.specs.File.{records_from}
use Rattle.ec20.specs.UseMap.{holds}
use Rattle.marks.specs.Marked.{Passed}
use Rattle.places.proofs.used_words.Given as goal

abbrev pub invariant-loop-k : goal.invariant-loop-k
invariant-loop-k l = Passed ec20 holds (records_from l.f l.first l.count) l.k l.used
