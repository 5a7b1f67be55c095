use mathlib.Core.Path.{◌≡◌}
use Prim.Native.Nat.{◌-◌}
use Rattle.ec20.specs.Basics.{first_at, refused_at}
use Rattle.ec20.specs.Code.{program_in}
use Rattle.ec20.specs.Control.{controls_of}
use Rattle.ec20.specs.File.{records_from}
use Rattle.ec20.specs.Labels.{label_fault}
use Rattle.labels.proofs.first_from.Given as goal

abbrev pub invariant-loop-k : goal.invariant-loop-k
invariant-loop-k l =
    refused_at 7 (first_at (λ j. label_fault (controls_of (program_in (records_from l.f l.first l.count))) l.count j ((controls_of (program_in (records_from l.f l.first l.count))) j)) l.from (l.count - l.from)) ≡ refused_at 7 (first_at (λ j. label_fault (controls_of (program_in (records_from l.f l.first l.count))) l.count j ((controls_of (program_in (records_from l.f l.first l.count))) j)) l.k (l.count - l.k))
