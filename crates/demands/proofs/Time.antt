-- NO MILLISECOND IS LOST: time. Its words and its statement are in specs/Time.antt.
use Prim.Native.Nat.{ℕ, ◌+◌, ◌*◌, ◌%◌, ◌≤◌, ◌<◌}
use mathlib.Core.Bool.{true}
use mathlib.Core.List.{List, [], ◌∷◌, map}
use mathlib.Core.Path.{◌≡◌, refl, sym, ap, ap₂, subst, ◌∙◌}
use native.Mathlib.Nat.{add-mul, eq_of_mul-eq-mul_right}
use native.Mathlib.Omega.{arith}
use lib.Dec.{ltb, leb, eqb}
use lib.IntN.{ℤ, pos}
use lib.ListN.{length, get_or, replicate}
use borrow.Author.Tests.{le-leb, leb-true, eqb-true}
use Rattle.std.specs.Prelude.{Err}
use Rattle.ec20.proofs.Computing.{computing}
use Rattle.ec20.proofs.Files.{K, SM, T, r0, r1, r2, file, blank}
use Rattle.ec20.proofs.Tests.{each, picked}
use Rattle.ec20.specs.declared.Report.{Report}
use Rattle.ec20.specs.Scanned.{Scanned}
use Rattle.ec20.specs.Scanned.{Ended, Watchdog, Refused}
use Rattle.ec20.specs.Devices.{Device, ec20}
use Rattle.ec20.specs.Memory.{Memory, sized}
use Rattle.ec20.specs.Plant.{Plant, plant, leftover_of, leftovers_fit, units_in, rest_after}
use Rattle.ec20.specs.Scan.{fitting, scan_for}
use Rattle.ec20.specs.Timers.{base_of, given_to}
use Rattle.moving.specs.Series.{Input, plant_with_x, scan_with, series}
use Rattle.demands.specs.Lines.{Not9}
use Rattle.demands.specs.Time.{Base, hundred, ten, one, time_of, units_over, rest_over, NotRefused, NoneRefused, left_by, times_of, units_in_series, Time}
use Rattle.demands.proofs.ScanAnswers.{says, fitting-true}

bases : (i : ℕ) → Base (base_of i)
unfolding base_of
bases i = picked Base (ltb i 210) _ _ (λ _. hundred) (λ _. picked Base (ltb i 252) _ _ (λ _. ten) (λ _. one))

some : (n : ℕ) → Base n → 0 < n
some n hundred = omega arith
some n ten = omega arith
some n one = omega arith

-- ---- one scan

once : (n : ℕ) → Base n → (e : ℕ) (r : List ℕ) → given_to n (units_in e r) * n + leftover_of n (rest_after e r) ≡ e + leftover_of n r
unfolding given_to units_in leftover_of rest_after
once n hundred e r = omega arith
once n ten e r = omega arith
once n one e r = omega arith

fit-after : (e : ℕ) (r : List ℕ) → leftovers_fit (rest_after e r) ≡ true
unfolding leftovers_fit leftover_of rest_after
fit-after e r =
    rw (le-leb ((get_or r 0 0 + e) % 10) 9 (omega arith), le-leb ((get_or r 1 0 + e) % 100) 99 (omega arith)) refl

-- a table of two is its two entries
entries : (r : List ℕ) → length r ≡ 2 → r ≡ get_or r 0 0 ∷ get_or r 1 0 ∷ []
entries [] h = absurd (omega arith)
entries (x ∷ []) h = absurd (omega arith)
entries (x ∷ y ∷ []) h = refl
entries (x ∷ y ∷ z ∷ l) h = absurd (omega arith)

-- leftovers in their ranges make no whole unit
no-time : (r : List ℕ) → leftovers_fit r ≡ true → rest_after 0 r ≡ r
unfolding leftovers_fit leftover_of rest_after
no-time r h =
    let a = each (eqb (length r) 2) (leb (get_or r 0 0) 9) (leb (get_or r 1 0) 99) h in
    let low : get_or r 0 0 ≤ 9 = leb-true _ _ a.1 in
    let high : get_or r 1 0 ≤ 99 = leb-true _ _ a.2 in
    let x : (get_or r 0 0 + 0) % 10 ≡ get_or r 0 0 = omega arith in
    let y : (get_or r 1 0 + 0) % 100 ≡ get_or r 1 0 = omega arith in
    ap₂ (λ (s t : ℕ). s ∷ t ∷ []) x y ∙ sym (entries r (eqb-true _ _ a.0))

-- ---- two, and any split

two_left : (e e' : ℕ) (r : List ℕ) → rest_after e' (rest_after e r) ≡ rest_after (e + e') r
unfolding leftover_of rest_after
two_left e e' r =
    let x : ((get_or r 0 0 + e) % 10 + e') % 10 ≡ (get_or r 0 0 + (e + e')) % 10 = omega arith in
    let y : ((get_or r 1 0 + e) % 100 + e') % 100 ≡ (get_or r 1 0 + (e + e')) % 100 = omega arith in
    ap₂ (λ (s t : ℕ). s ∷ t ∷ []) x y

none_lost : (n : ℕ) → Base n → (es r : List ℕ) → units_over n es r * n + leftover_of n (rest_over es r) ≡ time_of es + leftover_of n r
unfolding units_over rest_over time_of
none_lost n h [] r = omega arith
none_lost n h (e ∷ es) r =
    let g = given_to n (units_in e r) in
    let more = units_over n es (rest_after e r) in
    let sum : (g + more) * n ≡ g * n + more * n = add-mul g more n in
    let here : g * n + leftover_of n (rest_after e r) ≡ e + leftover_of n r = once n h e r in
    let later : more * n + leftover_of n (rest_over es (rest_after e r)) ≡ time_of es + leftover_of n (rest_after e r) = none_lost n h es (rest_after e r) in
    omega arith

all_left : (es r : List ℕ) → leftovers_fit r ≡ true → rest_over es r ≡ rest_after (time_of es) r
unfolding rest_over time_of
all_left [] r h = sym (no-time r h)
all_left (e ∷ es) r h = all_left es (rest_after e r) (fit-after e r) ∙ two_left e (time_of es) r

-- as much time, and as much left over: as many units
as_many : (n : ℕ) → Base n → (x y l t : ℕ) → x * n + l ≡ t → y * n + l ≡ t → x ≡ y
as_many n h x y l t a b = eq_of_mul-eq-mul_right n (some n h) x y (omega arith)

all_given : (n : ℕ) → Base n → (es r : List ℕ) → leftovers_fit r ≡ true → units_over n es r ≡ given_to n (units_in (time_of es) r)
all_given n h es r fit =
    let l = leftover_of n (rest_after (time_of es) r) in
    let left : leftover_of n (rest_over es r) ≡ l = ap (leftover_of n) (all_left es r fit) in
    let x : units_over n es r * n + l ≡ time_of es + leftover_of n r = ap (λ (m : ℕ). units_over n es r * n + m) (sym left) ∙ none_lost n h es r in
    as_many n h _ _ l (time_of es + leftover_of n r) x (once n h (time_of es) r)

two_given : (n : ℕ) → Base n → (e e' : ℕ) (r : List ℕ) → given_to n (units_in e r) + given_to n (units_in e' (rest_after e r)) ≡ given_to n (units_in (e + e') r)
two_given n h e e' r =
    let g = given_to n (units_in e r) in
    let more = given_to n (units_in e' (rest_after e r)) in
    let l = leftover_of n (rest_after (e + e') r) in
    let sum : (g + more) * n ≡ g * n + more * n = add-mul g more n in
    let here : g * n + leftover_of n (rest_after e r) ≡ e + leftover_of n r = once n h e r in
    let later : more * n + leftover_of n (rest_after e' (rest_after e r)) ≡ e' + leftover_of n (rest_after e r) = once n h e' (rest_after e r) in
    let left : leftover_of n (rest_after e' (rest_after e r)) ≡ l = ap (leftover_of n) (two_left e e' r) in
    let x : (g + more) * n + l ≡ (e + e') + leftover_of n r = omega arith in
    as_many n h (g + more) _ l ((e + e') + leftover_of n r) x (once n h (e + e') r)

-- ---- scans, of any file on any device

module _ (v : Device) (f : List ℕ) where
  set_by_scan : (e b : ℕ) (q : Plant) → NotRefused (scan_for v f e b q).answer → (scan_for v f e b q).plant.rest ≡ rest_after e q.rest
  set_by_scan e b q h = go (scan_for v f e b q).answer refl
    where
      go : (a : Scanned) → (scan_for v f e b q).answer ≡ a → (scan_for v f e b q).plant.rest ≡ rest_after e q.rest
      go (Ended r) z = (says v f e b q z).2.leftovers
      go (Watchdog r) z = (says v f e b q z).2.leftovers
      go (Err r) z = absurd (h r.number r.at z)

  in_range : (e b : ℕ) (q : Plant) → NotRefused (scan_for v f e b q).answer → leftovers_fit (scan_for v f e b q).plant.rest ≡ true
  in_range e b q h = subst (λ (r : List ℕ). leftovers_fit r ≡ true) (sym (set_by_scan e b q h)) (fit-after e q.rest)

  refused_keeps : (e b : ℕ) (q : Plant) (m k : ℕ) → (scan_for v f e b q).answer ≡ Refused m k → (scan_for v f e b q).plant.rest ≡ q.rest
  refused_keeps e b q m k z = ap (λ (p : Plant). p.rest) (says v f e b q z).kept

  -- what 9 does not refuse has leftovers in their ranges
  fit : (e b : ℕ) (q : Plant) → Not9 v e q → leftovers_fit q.rest ≡ true
  unfolding fitting
  fit e b q h = (each (sized v q.mem) (leftovers_fit q.rest) (leb e 10000) (fitting-true v f e b q h)).1

  no_time_keeps : (b : ℕ) (q : Plant) → (scan_for v f 0 b q).plant.rest ≡ q.rest
  no_time_keeps b q = go (scan_for v f 0 b q).answer refl
    where
      go : (a : Scanned) → (scan_for v f 0 b q).answer ≡ a → (scan_for v f 0 b q).plant.rest ≡ q.rest
      go (Ended r) z = let s = says v f 0 b q z in s.2.leftovers ∙ no-time q.rest (fit 0 b q s.1)
      go (Watchdog r) z = let s = says v f 0 b q z in s.2.leftovers ∙ no-time q.rest (fit 0 b q s.1)
      go (Err r) z = refused_keeps 0 b q r.number r.at z

  carried : (q : Plant) (is : List Input) → NoneRefused (series v f q is) → (left_by q (series v f q is)).rest ≡ rest_over (times_of is) q.rest
  unfolding series rest_over
  carried q [] h = refl
  carried q (i ∷ is) h =
      let s = scan_with v f q i in
      carried s.plant is h.1 ∙ ap (rest_over (times_of is)) (set_by_scan i.elapsed i.budget (plant_with_x q i.x) h.0)

  given : (n : ℕ) (q : Plant) (is : List Input) → NoneRefused (series v f q is) → units_in_series n v f q is ≡ units_over n (times_of is) q.rest
  unfolding series units_in_series units_over
  given n q [] h = refl
  given n q (i ∷ is) h =
      let s = scan_with v f q i in
      let found = set_by_scan i.elapsed i.budget (plant_with_x q i.x) h.0 in
      ap (λ (m : ℕ). given_to n (units_in i.elapsed q.rest) + m) (given n s.plant is h.1 ∙ ap (units_over n (times_of is)) found)

  none_lost_in_series : (n : ℕ) → Base n → (q : Plant) (is : List Input) → NoneRefused (series v f q is)
      → units_in_series n v f q is * n + leftover_of n (left_by q (series v f q is)).rest ≡ time_of (times_of is) + leftover_of n q.rest
  none_lost_in_series n h q is none =
      ap₂ (λ (u : ℕ) (r : List ℕ). u * n + leftover_of n r) (given n q is none) (carried q is none) ∙ none_lost n h (times_of is) q.rest

  pub time-on : Time v f
  time-on = record {
    bases = bases;
    none_lost = none_lost;
    two_given = two_given;
    two_left = two_left;
    all_given = all_given;
    all_left = all_left;
    set_by_scan = set_by_scan;
    in_range = in_range;
    refused_keeps = refused_keeps;
    no_time_keeps = no_time_keeps;
    carried = carried;
    given = given;
    none_lost_in_series = none_lost_in_series;
  }

pub time : (f : List ℕ) → Time ec20 f
time f = time-on ec20 f

-- ---- and it is not for nothing: 250 ms at once, as 25 scans of 10 ms, and as 99 and 151 ms, from the leftovers 9 and 99 on. For the 10 ms timers that
-- is 259 ms, 25 units and 9 ms; for the 100 ms timers 349, 3 units and 49 ms.

abbrev start : List ℕ
start = 9 ∷ 99 ∷ []

abbrev Gives : List ℕ → Type 0
Gives es = (units_over 100 es start ≡ 3) × (units_over 10 es start ≡ 25) × (units_over 1 es start ≡ 250) × (rest_over es start ≡ 9 ∷ 49 ∷ [])

pub at_once : Gives (250 ∷ [])
unfolding computing units_over rest_over
at_once = (refl, refl, refl, refl)

pub by_ten : Gives (replicate 25 10)
unfolding computing units_over rest_over
by_ten = (refl, refl, refl, refl)

pub by_two : Gives (99 ∷ 151 ∷ [])
unfolding computing units_over rest_over
by_two = (refl, refl, refl, refl)

-- T0, T209, T210, T251, T252 and T255, all on: LD SM0, TON of each with 32767, END
abbrev timers : List ℕ
timers =
    file (
    r1 1 (SM 0)
    ∷ r2 18 (T 0) (K 32767)
    ∷ r2 18 (T 209) (K 32767)
    ∷ r2 18 (T 210) (K 32767)
    ∷ r2 18 (T 251) (K 32767)
    ∷ r2 18 (T 252) (K 32767)
    ∷ r2 18 (T 255) (K 32767)
    ∷ r0 23
    ∷ [])

abbrev for-times : List ℕ → List Input
for-times es = map (λ (e : ℕ). let i : Input = record { x = replicate 32 0; elapsed = e; budget = 8 } in i) es

abbrev begun : Plant
begun = plant blank start

abbrev values : Memory → List ℤ
values c = map (λ (i : ℕ). get_or c.tv i (pos 0)) (0 ∷ 209 ∷ 210 ∷ 251 ∷ 252 ∷ 255 ∷ [])

-- after scans of these times
abbrev Counts : List ℕ → Type 0
Counts es =
    (values (left_by begun (series ec20 timers begun (for-times es))).mem ≡ pos 3 ∷ pos 3 ∷ pos 25 ∷ pos 25 ∷ pos 250 ∷ pos 250 ∷ [])
    × ((left_by begun (series ec20 timers begun (for-times es))).rest ≡ 9 ∷ 49 ∷ [])

pub counts-at-once : Counts (250 ∷ [])
unfolding computing series
counts-at-once = (refl, refl)

pub counts-by-ten : Counts (replicate 25 10)
unfolding computing series
counts-by-ten = (refl, refl)

pub counts-by-two : Counts (99 ∷ 151 ∷ [])
unfolding computing series
counts-by-two = (refl, refl)

-- no scan of the last is refused, so that the law of a series says it of them: 3 units of 100 ms and 49 ms are 250 and 99 ms
ended-not : (r : Report) → NotRefused (Ended r)
ended-not r m k z = let z : ◌≡◌ {A = ℕ} 0 1 = cc in omega arith

abbrev two : List Input
two = for-times (99 ∷ 151 ∷ [])

two_run : NoneRefused (series ec20 timers begun two)
unfolding computing series
two_run = (ended-not _, (ended-not _, tt))

pub two-none-lost : units_in_series 100 ec20 timers begun two * 100 + leftover_of 100 (left_by begun (series ec20 timers begun two)).rest
    ≡ time_of (times_of two) + leftover_of 100 start
two-none-lost = (time timers).none_lost_in_series 100 hundred begun two two_run

pub two-units : units_in_series 100 ec20 timers begun two ≡ 3
unfolding computing series units_in_series
two-units = refl

-- "even with budget 0": they are set, and no record is executed
pub budget-none : ((scan_for ec20 timers 250 0 begun).plant.rest ≡ 9 ∷ 49 ∷ []) × (values (scan_for ec20 timers 250 0 begun).plant.mem ≡ replicate 6 (pos 0))
unfolding computing
budget-none = (refl, refl)
