-- The loop's invariant: the search from record k on gives what the whole search gives.
use mathlib.Core.Path.{◌≡◌}
use Prim.Native.Nat.{ℕ, ◌+◌, ◌*◌, ◌-◌, ◌≤◌}
use Rattle.ec20.specs.Basics.{first_fault}
use Rattle.ec20.specs.Devices.{ec20}
use Rattle.ec20.specs.File.{records_from, record_from}
use Rattle.ec20.specs.Operands.{fault_in, first_bad}
use Rattle.faults.proofs.first_bad_among.Given as goal

abbrev pub invariant-loop-k : goal.invariant-loop-k
invariant-loop-k l =
    (l.k ≤ l.count) × (first_bad ec20 (records_from l.f l.first l.count) ≡ first_fault (λ (j : ℕ). fault_in ec20 (record_from l.f (l.first + 20 * j))) l.k (l.count - l.k))
