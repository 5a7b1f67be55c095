-- What it says of a job that its tasks are accepted, and that no two of them meet; and back. Assumes nothing.
use Prim.Native.Nat.{ℕ, zero, suc, ◌+◌, ◌-◌, ◌≤◌, ◌<◌}
use mathlib.Core.Bool.{Bool, false}
use mathlib.Core.List.{List, [], ◌∷◌}
use mathlib.Core.Path.{◌≡◌, refl, ap, subst, ◌∙◌}
use native.Mathlib.Decide.{ℕ_discrete}
use native.Mathlib.Omega.{arith}
use lib.ListN.{length, get_or, length-map, get_or-map}
use Rattle.std.specs.Prelude.{Err, Ok}
use Rattle.bound.proofs.First.{no-first, first-at}
use Rattle.ec20.proofs.NoFault.{place-parts}
use Rattle.ec20.proofs.Ranges.{is-inside}
use Rattle.ec20.specs.Basics.{first_at}
use Rattle.ec20.specs.Check.{check_for}
use Rattle.ec20.specs.Devices.{Device}
use Rattle.ec20.specs.File.{Records, records_of}
use Rattle.ec20.specs.Move.{Move, move, is_place, place_of, judge_move, move_to, move_if, move_after, move_for}
use Rattle.ec20.specs.Found.{Found}
use Rattle.ec20.specs.Found.{At, Nowhere}
use Rattle.ec20.specs.Judged.{Judged}
use Rattle.ec20.specs.Judged.{Fine}
use Rattle.ec20.specs.Moved.{Moved}
use Rattle.ec20.specs.Moved.{To, Refused as NotMoved}
use Rattle.ec20.specs.Verdict.{Verdict}
use Rattle.jobs.specs.Job.{task_then, by_tasks, task_at, met_by, meet_then, meetings}
use Rattle.jobs.specs.Tasks.{Task, pool_of, move_by, task_of, tasks_of, tasks_meet}
use Rattle.jobs.specs.Jobbed.{Jobbed}
use Rattle.jobs.specs.Jobbed.{Done}

-- ---- lines as tasks

-- as many
pub tasks-length : (ls : List (List ℕ)) → length (tasks_of ls) ≡ length ls
tasks-length ls = length-map ls task_of

-- and the task of a line; past the last there is none
pub task-at : (ls : List (List ℕ)) (j : ℕ) → task_at (tasks_of ls) j ≡ task_of (get_or ls j [])
task-at ls j = get_or-map task_of ls j []

-- ---- the place that is named

-- a refusal is no place
no_place : {A : Type 0} {m k q : ℕ} → ◌≡◌ {A = Moved} (NotMoved m k) (To q) → A
no_place e = let z : ◌≡◌ {A = ℕ} 0 1 = cc in absurd (omega arith)

-- in a pool of just the block's length a place begins where the pool does
in_pool : (v : Device) (rs : Records) (t : Task) (q : ℕ) → place_of v rs t.block (pool_of t) ≡ At q → q ≡ t.place
unfolding place_of
in_pool v rs t q e =
    let p : ℕ = t.place in
    let n : ℕ = t.block.length in
    let h = first-at (is_place v rs t.block (pool_of t)) (p + n - p) p q e in
    let i = is-inside q n p (p + n - p) (place-parts v rs t.block (pool_of t) q h.passes).0 in
    let low : p ≤ q = i.0 in
    let high : q + n ≤ p + (p + n - p) = i.1 in
    omega arith

module _ (v : Device) (f : List ℕ) (t : Task) (q : ℕ) where
  abbrev found : Found
  found = place_of v (records_of f) t.block (pool_of t)

  by-found : (x : Found) → (move_to x f t.block).answer ≡ To q → x ≡ At q
  by-found (At p) e = let u : ◌≡◌ {A = Moved} (To p) (To q) = e in let a : p ≡ q = cc u in ap At a
  by-found Nowhere e = no_place e

  by-judged : (x : Judged) → (move_if x found f t.block).answer ≡ To q → found ≡ At q
  by-judged Fine e = by-found found e
  by-judged (Err r) e = no_place e

  by-verdict : (x : Verdict) → (move_after v x f t.block (pool_of t)).answer ≡ To q → found ≡ At q
  by-verdict (Ok a) e = by-judged (judge_move v (records_of f) t.block (pool_of t)) e
  by-verdict (Err r) e = no_place e

  -- a move that is accepted goes to the place that is named
  pub named : (move_by v f t).answer ≡ To q → q ≡ t.place
  unfolding move_for
  named e = in_pool v (records_of f) t q (by-verdict (check_for v f) e)

  pub named-place : (g : List ℕ) → move_by v f t ≡ move (To q) g → q ≡ t.place
  named-place g e = named (ap (λ (m : Move). m.answer) e)

-- ---- task by task

-- a task that lets a job be done is accepted, and so is the rest
goes_on : (i : ℕ) (x : Moved) (rest : Jobbed) (n : ℕ) → task_then i x rest ≡ Done n → ((q : ℕ) × (x ≡ To q)) × (rest ≡ Done n)
goes_on i (To q) rest n e = ((q, refl), e)
goes_on i (Err r) rest n e = let z : ◌≡◌ {A = ℕ} 0 1 = cc in absurd (omega arith)

module _ (v : Device) (f : List ℕ) where
  -- a job that is done: each of its moves is accepted
  pub each-accepted : (i : ℕ) (ts : List Task) (then : Jobbed) (n : ℕ) → by_tasks v f i ts then ≡ Done n
      → (j : ℕ) → j < length ts → (q : ℕ) × ((move_by v f (task_at ts j)).answer ≡ To q)
  unfolding by_tasks
  each-accepted i [] then n e j h = absurd (omega arith)
  each-accepted i (t ∷ ts) then n e zero h = (goes_on i (move_by v f t).answer (by_tasks v f (suc i) ts then) n e).0
  each-accepted i (t ∷ ts) then n e (suc j) h =
      each-accepted (suc i) ts then n (goes_on i (move_by v f t).answer (by_tasks v f (suc i) ts then) n e).1 j (omega arith)

  -- to the place that it names
  pub each-named : (i : ℕ) (ts : List Task) (then : Jobbed) (n : ℕ) → by_tasks v f i ts then ≡ Done n
      → (j : ℕ) → j < length ts → (move_by v f (task_at ts j)).answer ≡ To (task_at ts j).place
  each-named i ts then n e j h =
      let a = each-accepted i ts then n e j h in
      a.1 ∙ ap To (named v f (task_at ts j) a.0 a.1)

  -- and what comes after them is done
  pub after-tasks : (i : ℕ) (ts : List Task) (then : Jobbed) (n : ℕ) → by_tasks v f i ts then ≡ Done n → then ≡ Done n
  unfolding by_tasks
  after-tasks i [] then n e = e
  after-tasks i (t ∷ ts) then n e =
      after-tasks (suc i) ts then n (goes_on i (move_by v f t).answer (by_tasks v f (suc i) ts then) n e).1

  -- if each is accepted, there is what comes after them
  pub all-accepted : (i : ℕ) (ts : List Task) (then : Jobbed)
      → ((j : ℕ) → j < length ts → (q : ℕ) × ((move_by v f (task_at ts j)).answer ≡ To q)) → by_tasks v f i ts then ≡ then
  unfolding by_tasks
  all-accepted i [] then h = refl
  all-accepted i (t ∷ ts) then h =
      ap (λ (x : Moved). task_then i x (by_tasks v f (suc i) ts then)) (h 0 (omega arith)).1
      ∙ all-accepted (suc i) ts then (λ j l. h (suc j) (omega arith))

-- ---- tasks that meet

-- a search all of whose numbers fail
pub all-fail : (test : ℕ → Bool) (n k : ℕ) → ((j : ℕ) → k ≤ j → j < k + n → test j ≡ false) → first_at test k n ≡ Nowhere
unfolding first_at
all-fail test zero k h = refl
all-fail test (suc n) k h =
    rw (h k (omega arith) (omega arith)) (all-fail test n (k + 1) (λ j a b. h j (omega arith) (omega arith)))

-- a task that lets a job be done meets none, and so do the rest
meets_on : (i : ℕ) (x : Found) (rest : Jobbed) (n : ℕ) → meet_then i x rest ≡ Done n → (x ≡ Nowhere) × (rest ≡ Done n)
meets_on i (At j) rest n e = let z : ◌≡◌ {A = ℕ} 0 1 = cc in absurd (omega arith)
meets_on i Nowhere rest n e = (refl, e)

module _ (ts : List Task) where
  unmet : (a m n : ℕ) → meetings ts a m ≡ Done n → (i : ℕ) → a ≤ i → i < a + m → met_by ts i ≡ Nowhere
  unfolding meetings
  unmet a zero n e i l u = absurd (omega arith)
  unmet a (suc m) n e i l u =
      let h = meets_on a (met_by ts a) (meetings ts (suc a) m) n e in
      elim (ℕ_discrete a i) [
        | yes d ↦ subst (λ (k : ℕ). met_by ts k ≡ Nowhere) d h.0
        | no d ↦ unmet (suc a) m n h.1 i (omega arith) (omega arith)
      ]

  -- a job that is done: no two of its tasks meet
  pub none-meets : (n : ℕ) → meetings ts 0 (length ts) ≡ Done n
      → (i j : ℕ) → j < i → i < length ts → tasks_meet (task_at ts j) (task_at ts i) ≡ false
  unfolding met_by
  none-meets n e i j l u =
      no-first (λ k. tasks_meet (task_at ts k) (task_at ts i)) i 0 (unmet 0 (length ts) n e i (omega arith) (omega arith)) j (omega arith) (omega arith)

  all-unmet : (a m : ℕ) → ((i : ℕ) → a ≤ i → i < a + m → met_by ts i ≡ Nowhere) → meetings ts a m ≡ Done (length ts)
  unfolding meetings
  all-unmet a zero h = refl
  all-unmet a (suc m) h =
      ap (λ (x : Found). meet_then a x (meetings ts (suc a) m)) (h a (omega arith) (omega arith))
      ∙ all-unmet (suc a) m (λ i l u. h i (omega arith) (omega arith))

  -- and if no two meet, it is done
  pub all_apart : ((i j : ℕ) → j < i → i < length ts → tasks_meet (task_at ts j) (task_at ts i) ≡ false) → meetings ts 0 (length ts) ≡ Done (length ts)
  unfolding met_by
  all_apart h =
      all-unmet 0 (length ts)
      (λ i l u. all-fail (λ k. tasks_meet (task_at ts k) (task_at ts i)) i 0 (λ j a b. h i j (omega arith) (omega arith)))
