-- WHAT IS TOLD OF A JOB: told, and that nothing else is: only. The statement is in specs/Numbers.antt. Assumes nothing.
use Prim.Native.Nat.{ℕ, zero, suc, ◌+◌, ◌≤◌, ◌<◌}
use mathlib.Core.Bool.{Bool, true, false, ◌||◌}
use mathlib.Core.List.{List, [], ◌∷◌}
use mathlib.Core.Logic.{◌⊎◌, inl, inr}
use mathlib.Core.Path.{◌≡◌, refl, sym, ap, subst, ◌∙◌}
use native.Mathlib.Decide.{dec_le, ℕ_discrete}
use native.Mathlib.Omega.{arith}
use lib.Dec.{eqb}
use lib.IntN.{ℤ}
use lib.ListN.{length}
use borrow.Author.Tests.{le-leb, lt-leb, eqb-true, eq-eqb}
use Rattle.std.specs.Prelude.{Err, Ok}
use Rattle.bound.proofs.First.{no-first, first-at}
use Rattle.ec20.proofs.Tests.{differ, either, neither, is_false, or_right}
use Rattle.ec20.specs.Basics.{pick, first_at}
use Rattle.ec20.specs.Check.{check_for}
use Rattle.ec20.specs.Devices.{Device}
use Rattle.ec20.specs.Found.{Found}
use Rattle.ec20.specs.Found.{At, Nowhere}
use Rattle.ec20.specs.Moved.{Moved}
use Rattle.ec20.specs.Moved.{To}
use Rattle.ec20.specs.Verdict.{Verdict}
use Rattle.ec20.specs.Verdict.{Accepted}
use Rattle.jobs.proofs.Laws.{all-accepted, all_apart, all-fail}
use Rattle.jobs.specs.Job.{refused, task_then, by_tasks, task_at, met_by, meet_then, meetings, right_table, answer_after, job_answer}
use Rattle.jobs.specs.Tasks.{Task, move_by, tasks_meet}
use Rattle.jobs.specs.Jobbed.{Jobbed}
use Rattle.jobs.specs.Jobbed.{Refused, Done}
use Rattle.orders.specs.Numbers.{Judged, FirstRefused, EachGoes, Alone, FirstMeeting, Told, told_16, told_1_8, told_9, told_line, told_meeting, told_done}
use Rattle.orders.specs.Two.{Goes}

-- ---- line by line

module _ (v : Device) (f : List ℕ) where
  -- what is told where line i is the first that is refused
  refused-at : (a : ℕ) (ts : List Task) (then : Jobbed) (i m k : ℕ) → FirstRefused v f ts i m k → by_tasks v f a ts then ≡ Refused m k (a + i) (a + i)
  unfolding by_tasks
  refused-at a [] then i m k r = absurd (omega (arith, r.there))
  refused-at a (t ∷ ts) then zero m k r =
      let e : a + 0 ≡ a = omega arith in
      ap (λ (x : Moved). task_then a x (by_tasks v f (suc a) ts then)) r.refused ∙ ap (λ (n : ℕ). Refused m k n n) (sym e)
  refused-at a (t ∷ ts) then (suc i) m k r =
      let e : suc a + i ≡ a + suc i = omega arith in
      ap (λ (x : Moved). task_then a x (by_tasks v f (suc a) ts then)) (r.ahead 0 (omega arith)).1
      ∙ refused-at (suc a) ts then i m k (record { there = omega (arith, r.there); refused = r.refused; ahead = λ j l. r.ahead (suc j) (omega arith) })
      ∙ ap (λ (n : ℕ). Refused m k n n) e

  -- each goes, or there is a first that does not
  abbrev Lines : List Task → Type 0
  Lines ts = EachGoes v f ts ⊎ ((i : ℕ) × (m : ℕ) × (k : ℕ) × FirstRefused v f ts i m k)

  one_more : (t : Task) (ts : List Task) → Goes v f t → Lines ts → Lines (t ∷ ts)
  one_more t ts g (inl h) = inl each
    where
      each : EachGoes v f (t ∷ ts)
      each zero l = g
      each (suc j) l = h j (omega arith)
  one_more t ts g (inr (i, m, k, r)) = inr (suc i, m, k, record { there = omega (arith, r.there); refused = r.refused; ahead = ahead })
    where
      ahead : (j : ℕ) → j < suc i → Goes v f (task_at (t ∷ ts) j)
      ahead zero l = g
      ahead (suc j) l = r.ahead j (omega arith)

  lines : (ts : List Task) → Lines ts
  lines [] = inl (λ j l. absurd (omega arith))
  lines (t ∷ ts) = go (move_by v f t).answer refl (lines ts)
    where
      go : (x : Moved) → (move_by v f t).answer ≡ x → Lines ts → Lines (t ∷ ts)
      go (To q) e h = one_more t ts (q, e) h
      go (Err r) e h = inr (0, r.number, r.at, record { there = omega arith; refused = e; ahead = λ j l. absurd (omega arith) })

-- ---- the meetings

-- the first that passes is found
first-is : (test : ℕ → Bool) (n k t : ℕ) → k ≤ t → t < k + n → test t ≡ true → ((j : ℕ) → k ≤ j → j < t → test j ≡ false) → first_at test k n ≡ At t
unfolding first_at
first-is test zero k t l u e h = absurd (omega arith)
first-is test (suc n) k t l u e h =
    elim (ℕ_discrete k t) [
      | yes d ↦ rw (d, e)
      | no d ↦ rw (h k (omega arith) (omega arith)) (first-is test n (k + 1) t (omega arith) (omega arith) e (λ j a b. h j (omega arith) b))
    ]

module _ (ts : List Task) where
  abbrev test : ℕ → ℕ → Bool
  test i j = tasks_meet (task_at ts j) (task_at ts i)

  alone-met : (i : ℕ) → Alone ts i → met_by ts i ≡ Nowhere
  unfolding met_by
  alone-met i h = all-fail (test i) i 0 (λ j a b. h j (omega arith))

  met-alone : (i : ℕ) → met_by ts i ≡ Nowhere → Alone ts i
  unfolding met_by
  met-alone i e l h = no-first (test i) i 0 e l (omega arith) (omega arith)

  meeting-met : (i j : ℕ) → FirstMeeting ts i j → met_by ts i ≡ At j
  unfolding met_by
  meeting-met i j m = first-is (test i) i 0 j (omega arith) (omega (arith, m.before)) m.meets (λ l a b. m.first l b)

  met-meeting : (i j : ℕ) → i < length ts → ((k : ℕ) → k < i → Alone ts k) → met_by ts i ≡ At j → FirstMeeting ts i j
  unfolding met_by
  met-meeting i j h a e =
      let x = first-at (test i) i 0 j e in
      record { there = h; before = omega (arith, x.high); meets = x.passes; first = λ l b. x.none l (omega arith) b; ahead = a }

  -- what is told where line i is the first that meets one ahead of it
  meeting-at : (a n i j : ℕ) → a ≤ i → i < a + n → FirstMeeting ts i j → meetings ts a n ≡ Refused 14 0 i j
  unfolding meetings
  meeting-at a zero i j l u m = absurd (omega arith)
  meeting-at a (suc n) i j l u m =
      elim (ℕ_discrete a i) [
        | yes d ↦
            ap (λ (x : Found). meet_then a x (meetings ts (suc a) n)) (ap (met_by ts) d ∙ meeting-met i j m) ∙ ap (λ (k : ℕ). Refused 14 0 k j) d
        | no d ↦
            ap (λ (x : Found). meet_then a x (meetings ts (suc a) n)) (alone-met a (m.ahead a (omega arith)))
            ∙ meeting-at (suc a) n i j (omega arith) (omega arith) m
      ]

  -- none meets one ahead of it, or there is a first that does
  abbrev Pairs : ℕ → Type 0
  Pairs n = ((i : ℕ) → i < n → Alone ts i) ⊎ ((i : ℕ) × (j : ℕ) × FirstMeeting ts i j)

  pairs : (n : ℕ) → n ≤ length ts → Pairs n
  pairs zero h = inl (λ i l. absurd (omega arith))
  pairs (suc n) h = go (pairs n (omega arith))
    where
      by-met : ((i : ℕ) → i < n → Alone ts i) → (x : Found) → met_by ts n ≡ x → Pairs (suc n)
      by-met a (At j) e = inr (n, j, met-meeting n j (omega arith) a e)
      by-met a Nowhere e =
          inl (λ i l. elim (ℕ_discrete i n) [ yes d ↦ subst (Alone ts) (sym d) (met-alone n e) | no d ↦ a i (omega arith) ])

      go : Pairs n → Pairs (suc n)
      go (inl a) = by-met a (met_by ts n) refl
      go (inr m) = inr m

-- ---- the whole

module _ (v : Device) (f : List ℕ) (d : List ℤ) (ts : List Task) where
  abbrev rest : Jobbed
  rest = by_tasks v f 0 ts (meetings ts 0 (length ts))

  -- where nothing of 16, 1 to 8 and 9 holds, the lines are judged
  abbrev right : (length d ≡ v.words) ⊎ (length d ≡ 0) → right_table v d ≡ true
  right (inl e) = ap (λ (x : Bool). x || eqb (length d) 0) (eq-eqb _ _ e)
  right (inr e) = or_right (eqb (length d) v.words) (eqb (length d) 0) (eq-eqb _ _ e)

  judged-rest : Judged v f d ts → job_answer v f d ts ≡ rest
  unfolding job_answer
  judged-rest g = rw (le-leb _ _ g.few, g.accepted, right g.table)

  line-rest : {i m k : ℕ} → FirstRefused v f ts i m k → rest ≡ Refused m k i i
  line-rest {i} {m} {k} r =
      let e : 0 + i ≡ i = omega arith in
      refused-at v f 0 ts (meetings ts 0 (length ts)) i m k r ∙ ap (λ (n : ℕ). Refused m k n n) e

  goes-rest : EachGoes v f ts → rest ≡ meetings ts 0 (length ts)
  goes-rest h = all-accepted v f 0 ts (meetings ts 0 (length ts)) h

  meeting-rest : {i j : ℕ} → EachGoes v f ts → FirstMeeting ts i j → rest ≡ Refused 14 0 i j
  meeting-rest {i} {j} h m = goes-rest h ∙ meeting-at ts 0 (length ts) i j (omega arith) (omega (arith, m.there)) m

  done-rest : EachGoes v f ts → ((i : ℕ) → i < length ts → Alone ts i) → rest ≡ Done (length ts)
  done-rest h a = goes-rest h ∙ all_apart ts (λ i j l u. a i u j l)

  -- ONLY: no other answer is told so
  pub only : {a : Jobbed} → Told v f d ts a → a ≡ job_answer v f d ts
  unfolding job_answer
  only (told_16 h) = sym (ap (λ (x : Bool). pick x (answer_after v (check_for v f) f d ts) (refused 16 0)) (lt-leb (length ts) 64 h))
  only (told_1_8 h c) = rw (le-leb _ _ h, c)
  only (told_9 h c x y) =
      rw (le-leb _ _ h, c, is_false (eqb (length d) v.words) (λ e. x (eqb-true _ _ e)), is_false (eqb (length d) 0) (λ e. y (eqb-true _ _ e)))
  only (told_line g r) = sym (judged-rest g ∙ line-rest r)
  only (told_meeting g h m) = sym (judged-rest g ∙ meeting-rest h m)
  only (told_done g h a) = sym (judged-rest g ∙ done-rest h a)

  -- TOLD: what is told has a line that holds
  abbrev Holds : Jobbed → Type 0
  Holds a = Told v f d ts a

  by-pairs : Judged v f d ts → EachGoes v f ts → Pairs ts (length ts) → Holds (job_answer v f d ts)
  by-pairs g h (inl a) = subst Holds (sym (judged-rest g ∙ done-rest h a)) (told_done g h a)
  by-pairs g h (inr (i, j, m)) = subst Holds (sym (judged-rest g ∙ meeting-rest h m)) (told_meeting g h m)

  by_lines : Judged v f d ts → Lines v f ts → Holds (job_answer v f d ts)
  by_lines g (inl h) = by-pairs g h (pairs ts (length ts) (omega arith))
  by_lines g (inr (i, m, k, r)) = subst Holds (sym (judged-rest g ∙ line-rest r)) (told_line g r)

  by-table : (n w : ℕ) → length ts ≤ 64 → check_for v f ≡ Accepted n w → (x : Bool) → right_table v d ≡ x → Holds (job_answer v f d ts)
  by-table n w h c true e =
      by_lines (record { few = h; records = n; steps = w; accepted = c; table = table }) (lines v f ts)
    where
      table : (length d ≡ v.words) ⊎ (length d ≡ 0)
      table = elim (either (eqb (length d) v.words) (eqb (length d) 0) e) [ inl z ↦ inl (eqb-true _ _ z) | inr z ↦ inr (eqb-true _ _ z) ]
  by-table n w h c false e =
      let z = neither (eqb (length d) v.words) (eqb (length d) 0) e in
      let t : Holds (Refused 9 0 0 0) = told_9 h c (λ x. differ (sym (eq-eqb _ _ x) ∙ z.0)) (λ x. differ (sym (eq-eqb _ _ x) ∙ z.1)) in
      subst Holds (only t) t

  by-verdict : length ts ≤ 64 → (x : Verdict) → check_for v f ≡ x → Holds (job_answer v f d ts)
  by-verdict h (Ok a) c = by-table a.records a.steps h c (right_table v d) refl
  by-verdict h (Err r) c = let t : Holds (Refused r.number r.at 0 0) = told_1_8 h c in subst Holds (only t) t

  pub told : Told v f d ts (job_answer v f d ts)
  told =
      elim (dec_le (length ts) 64) [
        | yes h ↦ by-verdict h (check_for v f) refl
        | no h ↦ let t : Holds (Refused 16 0 0 0) = told_16 (omega arith) in subst Holds (only t) t
      ]
