-- Any list of such moves, in any order.
use Rattle.std.specs.Prelude.{ℕ, List, [], ◌∷◌, map, ◌≡◌, ℤ, length}
use Rattle.ec20.specs.Exchanged.{Done}
use Rattle.ec20.specs.Moved.{To}
use Rattle.ec20.specs.Check.{check_for}
use Rattle.ec20.specs.Devices.{Device}
use Rattle.ec20.specs.Memory.{with_d}
use Rattle.ec20.specs.Move.{move}
use Rattle.ec20.specs.Plant.{Plant, plant}
use Rattle.ec20.specs.Scan.{Scan, scan}
use Rattle.moving.specs.Series.{Input, series}
use Rattle.jobs.specs.Tasks.{Task, move_by, moved_by, exchanged_by}
use Rattle.orders.specs.Two.{Goes, Disjoint, exchange_by}

-- ---- the premises

-- "each move accepted alone on the original"
abbrev pub Each : Device → List ℕ → List Task → Type 0
Each v f [] = Unit {0}
Each v f (t ∷ ts) = Goes v f t × Each v f ts

-- the task and each of the others are disjoint
abbrev pub DisjointFrom : Task → List Task → Type 0
DisjointFrom t [] = Unit {0}
DisjointFrom t (u ∷ us) = Disjoint t u × DisjointFrom t us

-- every two of them are
abbrev pub AllDisjoint : List Task → Type 0
AllDisjoint [] = Unit {0}
AllDisjoint (t ∷ ts) = DisjointFrom t ts × AllDisjoint ts

pub record Fits (v : Device) (f : List ℕ) (ts : List Task) : Type 0 where
  pub each : Each v f ts
  pub disjoint : AllDisjoint ts

-- ---- in any order

-- the same tasks in another order: two neighbours change places, any number of times
pub data Reordered : List Task → List Task → Type 0 where
  as_it_is : {ts : List Task} → Reordered ts ts
  swapped : {s t : Task} {ts : List Task} → Reordered (s ∷ t ∷ ts) (t ∷ s ∷ ts)
  behind : {t : Task} {ss ts : List Task} → Reordered ss ts → Reordered (t ∷ ss) (t ∷ ts)
  then : {rs ss ts : List Task} → Reordered rs ss → Reordered ss ts → Reordered rs ts

-- f moved by one task after the other is g: each is accepted, at its place, on what the one before it left
pub data InTurn (v : Device) : List ℕ → List Task → List ℕ → Type 0 where
  none : {f : List ℕ} → InTurn v f [] f
  next : {f g h : List ℕ} {t : Task} {ts : List Task} → move_by v f t ≡ move (To t.place) g → InTurn v g ts h → InTurn v f (t ∷ ts) h

-- the table d exchanged by one task after the other is e: each exchange is granted
pub data Exchanged (v : Device) : List ℤ → List Task → List ℤ → Type 0 where
  no_more : {d : List ℤ} → Exchanged v d [] d
  one_more : {d e x : List ℤ} {t : Task} {ts : List Task} → exchange_by v d t ≡ record { answer = Done; words = e } → Exchanged v e ts x
      → Exchanged v d (t ∷ ts) x

-- the memory with the words of every block and its place exchanged, and all else as it is, the leftovers too; an answer with its memory so
abbrev pub with_exchanges : List Task → Plant → Plant
with_exchanges ts p = plant (with_d p.mem (exchanged_by ts p.mem.d)) p.rest

abbrev pub scan_exchanged_by : List Task → Scan → Scan
scan_exchanged_by ts s = scan s.answer (with_exchanges ts s.plant)

-- The tasks ts of the file f
pub record AnyOrder (v : Device) (f : List ℕ) (ts : List Task) : Type 0 where
  -- in every order: all are accepted, one after the other, and give the same bytes
  pub bytes : (us : List Task) → Reordered ts us → InTurn v f us (moved_by ts f)
  -- all exchanges are granted, one after the other, and give the same table
  pub table : (us : List Task) → Reordered ts us → (d : List ℤ) → length d ≡ v.words → Exchanged v d us (exchanged_by ts d)
  -- the moved program is accepted as the old one is
  pub check : check_for v (moved_by ts f) ≡ check_for v f
  -- demand 3 for all of them: every scan of the moved program on the exchanged memory gives the old answer and the old memory with the ranges exchanged
  pub scans : (p : Plant) (is : List Input) → series v (moved_by ts f) (with_exchanges ts p) is ≡ map (scan_exchanged_by ts) (series v f p is)
