-- The loop's invariant: the first k records are looked up.
use Rattle.ec20.specs.Code.{program_in}
use Rattle.ec20.specs.Control.{controls_of}
use Rattle.ec20.specs.File.{records_from}
use Rattle.jumps.proofs.Tables.{Filled}
use Rattle.jumps.specs.Prepared.{goes_to}
use Rattle.jumps.proofs.looked_up.Given as goal

abbrev pub invariant-loop-k : goal.invariant-loop-k
invariant-loop-k l =
    let code = controls_of (program_in (records_from l.f l.first l.count)) in
    Filled (λ j. goes_to code l.count j (code j)) l.k l.goes
