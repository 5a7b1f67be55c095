-- The loop's invariant: the first LBL of the label among the records from k on is its first of all.
use mathlib.Core.Path.{◌≡◌}
use Prim.Native.Nat.{◌-◌}
use Rattle.ec20.specs.Basics.{first_at}
use Rattle.ec20.specs.Code.{program_in}
use Rattle.ec20.specs.Control.{controls_of, marks, first_label}
use Rattle.ec20.specs.File.{records_from}
use Rattle.labels.proofs.label.Given as goal

abbrev pub invariant-loop-k : goal.invariant-loop-k
invariant-loop-k l =
    first_label (controls_of (program_in (records_from l.f l.first l.count))) l.count l.l ≡ first_at (λ j. marks l.l (controls_of (program_in (records_from l.f l.first l.count)) j)) l.k (l.count - l.k)
