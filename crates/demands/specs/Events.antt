-- A series of scans and requests over one memory of the EC20, in any order.
use Rattle.std.specs.Prelude.{ℕ, List, [], ◌∷◌}
use Rattle.ec20.specs.Devices.{ec20}
use Rattle.ec20.specs.Memory.{with_m, with_d}
use Rattle.ec20.specs.Plant.{Plant, plant}
use Rattle.modbus.specs.Answer.{answer_of}
use Rattle.moving.specs.Series.{Input, scan_with}

-- a scan, with what it is given from outside; or a request: own station, frame and reply buffer
pub data Event : Type 0 where
  scans : Input → Event
  asks : ℕ → List ℕ → List ℕ → Event

-- the memory and leftovers that it leaves: a request touches no leftover
unfoldable pub after_event : List ℕ → Plant → Event → Plant
after_event f q (scans i) = (scan_with ec20 f q i).plant
after_event f q (asks own g b) =
    let a = answer_of own g q.mem.m q.mem.d b in
    plant (with_d (with_m q.mem a.m) a.d) q.rest

-- those after all of them, in order
unfoldable pub after_events : List ℕ → Plant → List Event → Plant
after_events f q [] = q
after_events f q (e ∷ rest) = after_events f (after_event f q e) rest
