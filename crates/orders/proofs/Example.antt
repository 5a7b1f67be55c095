-- The theorems hold of a real file: a comment of two bytes, LD SM0, DMOV D100 to D110, MOV D300 to D302, ADD D302 and D300 to D101, END. The block D100 to
-- D111 goes to D200, the block D300 to D302 to D400.
use Prim.Native.Nat.{ℕ, ◌+◌}
use mathlib.Core.Bool.{false}
use mathlib.Core.List.{List, [], ◌∷◌}
use mathlib.Core.Path.{◌≡◌, refl}
use Rattle.demands.specs.Demand3.{OfBytes}
use Rattle.ec20.proofs.Files.{SM, D, r0, r1, r2, r3, file}
use Rattle.ec20.specs.Devices.{ec20}
use Rattle.ec20.specs.Move.{block, pool, move_for}
use Rattle.ec20.specs.Moved.{To, Refused}
use Rattle.jobs.proofs.Computing.{jobbing}
use Rattle.jobs.specs.Job.{job_answer}
use Rattle.jobs.specs.Tasks.{Task, task, move_by, tasks_meet, moved_by}
use Rattle.jobs.specs.Jobbed.{Done}
use Rattle.moved.proofs.Example.{bytes_below}
use Rattle.orders.specs.Any.{AnyOrder}
use Rattle.orders.specs.Jobs.{DoneAlike}
use Rattle.orders.specs.Two.{Goes, EitherOrder, ThereAndBack}
use Rattle.orders.proofs.Any.{any_order}
use Rattle.orders.proofs.Jobs.{unmet-disjoint, done-alike}
use Rattle.orders.proofs.Two.{two-moves, there_and_back}

-- the file, with its blocks at a and b
abbrev at : ℕ → ℕ → List ℕ
at a b =
    79 ∷ 10 ∷ file (r1 1 (SM 0) ∷ r2 48 (D a) (D (a + 10)) ∷ r2 32 (D b) (D (b + 2)) ∷ r3 33 (D (b + 2)) (D b) (D (a + 1)) ∷ r0 23 ∷ [])

abbrev A : Task
A = task (block 100 12) 200

abbrev B : Task
B = task (block 300 3) 400

-- ---- the premises

of_bytes : OfBytes (at 100 300)
of_bytes = bytes_below (at 100 300) refl

goes-A : Goes ec20 (at 100 300) A
unfolding jobbing
goes-A = (200, refl)

goes-B : Goes ec20 (at 100 300) B
unfolding jobbing
goes-B = (400, refl)

apart : tasks_meet A B ≡ false
unfolding jobbing
apart = refl

-- ---- the theorems

pub either : EitherOrder ec20 (at 100 300) A B
either = two-moves (at 100 300) of_bytes A B goes-A goes-B (unmet-disjoint A B apart)

pub round_trip : ThereAndBack ec20 (at 100 300) A
round_trip = there_and_back (at 100 300) of_bytes A goes-A

pub both : AnyOrder ec20 (at 100 300) (A ∷ B ∷ [])
both = any_order (at 100 300) of_bytes (A ∷ B ∷ []) (record { each = (goes-A, (goes-B, tt)); disjoint = ((unmet-disjoint A B apart, tt), (tt, tt)) })

done : job_answer ec20 (at 100 300) [] (A ∷ B ∷ []) ≡ Done 2
unfolding jobbing
done = refl

pub job-done : DoneAlike ec20 (at 100 300) [] (A ∷ B ∷ [])
job-done = done-alike (at 100 300) of_bytes [] (A ∷ B ∷ []) 2 done

-- and what is moved is this file
pub moved-both : moved_by (A ∷ B ∷ []) (at 100 300) ≡ at 200 400
unfolding jobbing
moved-both = refl

-- ---- disjointness is needed

-- S and T overlap: each move is accepted alone on the original, and the second is refused after the first
abbrev overlapping : Task
overlapping = task (block 300 3) 211

pub alone : (move_by ec20 (at 100 300) overlapping).answer ≡ To 211
unfolding jobbing
alone = refl

pub no_longer : (move_by ec20 (move_by ec20 (at 100 300) A).file overlapping).answer ≡ Refused 14 0
unfolding jobbing
no_longer = refl

-- B's block meets S: its move is accepted alone, and after A's it takes words of A along
abbrev over-place : Task
over-place = task (block 199 14) 500

pub empty-alone : (move_by ec20 (at 100 300) over-place).answer ≡ To 500
unfolding jobbing
empty-alone = refl

-- A and then it: the words of A stand at D501; it and then A: at D200
pub one-order : (move_by ec20 (move_by ec20 (at 100 300) A).file over-place).file ≡ at 501 300
unfolding jobbing
one-order = refl

pub other-order : (move_by ec20 (move_by ec20 (at 100 300) over-place).file A).file ≡ at 200 300
unfolding jobbing
other-order = refl

-- ---- and named places are: of a pool that leaves a choice nothing is claimed

-- both look for a place from D500 to D599. Whichever comes first takes the lowest; B then finds room between the words that A uses
pub first-A : (move_for ec20 (move_for ec20 (at 100 300) A.block (pool 500 600)).file B.block (pool 500 600)).file ≡ at 500 502
unfolding jobbing
first-A = refl

pub first-B : (move_for ec20 (move_for ec20 (at 100 300) B.block (pool 500 600)).file A.block (pool 500 600)).file ≡ at 503 500
unfolding jobbing
first-B = refl
