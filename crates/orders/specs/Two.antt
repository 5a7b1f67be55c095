-- DOCUMENT 02, (xiv). "Jobs now move several blocks to places we name, each by a pool of just the block's length. For an accepted program, blocks A and B
-- with places S and T, all four ranges disjoint and each move accepted alone on the original: moving A then B is accepted and gives the same bytes as B
-- then A, and the two exchanges of the D table give the same table. Moving A to S and then S back to A restores every byte. This is said of named places
-- only." Of a pool that leaves a choice nothing is claimed: the place that the first move takes may be the lowest for the second.
use Rattle.std.specs.Prelude.{ℕ, List, map, ◌≡◌, ℤ, length}
use Rattle.ec20.specs.Exchanged.{Done}
use Rattle.ec20.specs.Moved.{To}
use Rattle.ec20.specs.Check.{check_for}
use Rattle.ec20.specs.Devices.{Device}
use Rattle.ec20.specs.Exchange.{Exchange, exchange_for}
use Rattle.ec20.specs.Move.{move}
use Rattle.ec20.specs.Plant.{Plant}
use Rattle.moving.specs.Series.{Input, series}
use Rattle.demands.specs.Demand3.{with_exchange, scan_exchanged}
use Rattle.demands.specs.Lines.{In, InBlock}
use Rattle.jobs.specs.Tasks.{Task, move_by, back}

-- ---- the premises

-- "each move accepted alone on the original": the mover answers with a place. It does so of accepted programs alone.
abbrev pub Goes : Device → List ℕ → Task → Type 0
Goes v f t = (q : ℕ) × ((move_by v f t).answer ≡ To q)

-- word i is one of the block or of the place of the task
pub data Touched (t : Task) (i : ℕ) : Type 0 where
  in_block : InBlock t.block i → Touched t i
  in_place : In t.place t.block.length i → Touched t i

-- "all four ranges disjoint". That a place and its own block are, the move asks itself (14).
abbrev pub Disjoint : Task → Task → Type 0
Disjoint s t = (i : ℕ) → Touched s i → Touched t i → ⊥

-- ---- two moves

-- the exchange of a D table by one task, and what the table then is
abbrev pub exchange_by : Device → List ℤ → Task → Exchange
exchange_by v d t = exchange_for v d t.block t.place

-- Tasks s and t of the file f: A to S, and B to T.
pub record EitherOrder (v : Device) (f : List ℕ) (s t : Task) : Type 0 where
  -- "moving A then B is accepted", each at the place that is named
  pub first : (move_by v f s).answer ≡ To s.place
  pub then_second : (move_by v (move_by v f s).file t).answer ≡ To t.place
  -- and so is B then A
  pub second : (move_by v f t).answer ≡ To t.place
  pub then_first : (move_by v (move_by v f t).file s).answer ≡ To s.place
  -- "and gives the same bytes as B then A"
  pub bytes : (move_by v (move_by v f s).file t).file ≡ (move_by v (move_by v f t).file s).file
  -- "and the two exchanges of the D table give the same table": all of them are granted
  pub first_done : (d : List ℤ) → length d ≡ v.words → (exchange_by v d s).answer ≡ Done
  pub second_done : (d : List ℤ) → length d ≡ v.words → (exchange_by v d t).answer ≡ Done
  pub table : (d : List ℤ) → length d ≡ v.words
      → ((exchange_by v (exchange_by v d s).words t).answer ≡ Done) × (exchange_by v (exchange_by v d s).words t ≡ exchange_by v (exchange_by v d t).words s)
  -- demand 3 for both: the twice moved program is accepted as the old one is, and every scan of it on the twice exchanged memory answers alike
  pub check : check_for v (move_by v (move_by v f s).file t).file ≡ check_for v f
  pub scans : (p : Plant) (is : List Input)
      → series v (move_by v (move_by v f s).file t).file (with_exchange t.block t.place (with_exchange s.block s.place p)) is
      ≡ map (λ x. scan_exchanged t.block t.place (scan_exchanged s.block s.place x)) (series v f p is)

-- ---- one move, and back

pub record ThereAndBack (v : Device) (f : List ℕ) (t : Task) : Type 0 where
  -- "Moving A to S and then S back to A restores every byte."
  pub bytes : move_by v (move_by v f t).file (back t) ≡ move (To t.block.start) f
  -- and the two exchanges restore the table
  pub table : (d : List ℤ) → length d ≡ v.words → exchange_by v (exchange_by v d t).words (back t) ≡ record { answer = Done; words = d }
