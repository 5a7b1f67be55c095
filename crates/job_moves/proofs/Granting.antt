-- A job that is done: block and place of each line are in range, and their exchange is granted. Assumes nothing.
use Prim.Native.Nat.{ℕ, ◌<◌}
use mathlib.Core.List.{List}
use mathlib.Core.Path.{◌≡◌, sym, ap, subst}
use native.Mathlib.Omega.{arith}
use lib.ListN.{length}
use Rattle.ec20.specs.Devices.{ec20}
use Rattle.ec20.specs.Exchange.{exchange_of}
use Rattle.ec20.specs.Move.{move}
use Rattle.ec20.specs.Moved.{Moved}
use Rattle.ec20.specs.Moved.{To}
use Rattle.job_moves.specs.Ready.{Granted, EachGranted}
use Rattle.jobs.proofs.Laws.{tasks-length, task-at, each-named}
use Rattle.jobs.specs.Job.{by_tasks, task_at}
use Rattle.jobs.specs.Tasks.{Task, pool_of, move_by, tasks_of}
use Rattle.jobs.specs.Jobbed.{Jobbed}
use Rattle.jobs.specs.Jobbed.{Done}
use Rattle.moved.proofs.Exchanged.{exchange-done}
use Rattle.moved.proofs.Taken.{taken, placed}

-- a move that is accepted, to the place that is named
granted : (f : List ℕ) (t : Task) → (move_by ec20 f t).answer ≡ To t.place → Granted t
unfolding exchange_of
granted f t e =
    let w = taken ec20 f t.block (pool_of t) t.place (move_by ec20 f t).file (ap (λ (a : Moved). move a (move_by ec20 f t).file) e) in
    let p = (placed w).two in
    record {
      below = record { start = omega (arith, p.block_in); length = omega (arith, p.block_in); place = omega (arith, p.place_in) };
      exchanges = λ d h. exchange-done w d h;
    }

pub each-granted : (f : List ℕ) (ls : List (List ℕ)) (then : Jobbed) {n : ℕ} → Done n ≡ by_tasks ec20 f 0 (tasks_of ls) then → EachGranted ls
each-granted f ls then {n = n} e j h =
    let l : j < length (tasks_of ls) = subst (λ (m : ℕ). j < m) (sym (tasks-length ls)) h in
    subst Granted (task-at ls j) (granted f (task_at (tasks_of ls) j) (each-named ec20 f 0 (tasks_of ls) then n (sym e) j l))
