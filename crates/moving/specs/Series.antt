-- A series of scans: between two scans only X changes.
use Rattle.std.specs.Prelude.{ℕ, List, [], ◌∷◌}
use Rattle.ec20.specs.Devices.{Device}
use Rattle.ec20.specs.Memory.{Memory, memory}
use Rattle.ec20.specs.Plant.{Plant, plant}
use Rattle.ec20.specs.Scan.{Scan, scan_for}

-- what a scan of the series is given from outside: X, elapsed milliseconds, budget
pub record Input : Type 0 where
  pub x : List ℕ
  pub elapsed : ℕ
  pub budget : ℕ

-- the memory with another X
abbrev pub with_x : Memory → List ℕ → Memory
with_x c l = memory l c.y c.m c.sm c.t c.d c.tv

-- so, with the leftovers as they are
abbrev pub plant_with_x : Plant → List ℕ → Plant
plant_with_x q l = plant (with_x q.mem l) q.rest

-- one scan of the file on a device: on the memory with the input's X
abbrev pub scan_with : Device → List ℕ → Plant → Input → Scan
scan_with v f q i = scan_for v f i.elapsed i.budget (plant_with_x q i.x)

-- The scans of the file, in order, from the memory and leftovers q on: each on those that the one before it left, with its own X.
-- A refused scan leaves what it was given.
unfoldable pub series : Device → List ℕ → Plant → List Input → List Scan
series v f q [] = []
series v f q (i ∷ rest) =
    let s = scan_with v f q i in
    s ∷ series v f s.plant rest
