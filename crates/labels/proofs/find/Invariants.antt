-- The loop's invariant: the search from record k on, d deep, gives what the whole search gives; and d is at most k, so that it fits.
use mathlib.Core.Path.{◌≡◌}
use Prim.Native.Nat.{◌≤◌}
use Rattle.ec20.specs.Code.{program_in}
use Rattle.ec20.specs.Control.{controls_of, found_in_body}
use Rattle.ec20.specs.File.{records_from}
use Rattle.labels.specs.Want.{want_of}
use Rattle.labels.proofs.find.Given as goal

abbrev pub invariant-loop-k : goal.invariant-loop-k
invariant-loop-k l =
    (l.d ≤ l.k) × (found_in_body (controls_of (program_in (records_from l.f l.first l.count))) l.count (want_of l.w) 0 l.from ≡ found_in_body (controls_of (program_in (records_from l.f l.first l.count))) l.count (want_of l.w) l.d l.k)
