-- NO MILLISECOND IS LOST. Document 02, (iv): "The memory gains two leftovers, 0 to 9 ms and 0 to 99 ms, carried from scan to scan". "Whole units from
-- leftover plus elapsed go to every timer of that base in that scan. Leftovers are set before record 0, even with budget 0."
use Rattle.std.specs.Prelude.{ℕ, ◌+◌, ◌*◌, true, List, [], ◌∷◌, map, ◌≡◌}
use Rattle.ec20.specs.Scanned.{Scanned}
use Rattle.ec20.specs.Scanned.{Refused}
use Rattle.ec20.specs.Devices.{Device}
use Rattle.ec20.specs.Plant.{Plant, leftover_of, leftovers_fit, units_in, rest_after}
use Rattle.ec20.specs.Scan.{Scan, scan_for}
use Rattle.ec20.specs.Timers.{base_of, given_to}
use Rattle.moving.specs.Series.{Input, scan_with, series}

-- "T0 to T209 are 100 ms, T210 to T251 are 10 ms, T252 to T255 are 1 ms.": n is the base of a timer
pub data Base : ℕ → Type 0 where
  hundred : Base 100
  ten : Base 10
  one : Base 1

-- ---- a time, split into scans: their elapsed times, in order

-- all of it
unfoldable pub time_of : List ℕ → ℕ
time_of [] = 0
time_of (e ∷ es) = e + time_of es

-- the units that the timers of the base n are given in them, from the leftovers r on
unfoldable pub units_over : ℕ → List ℕ → List ℕ → ℕ
units_over n [] r = 0
units_over n (e ∷ es) r = given_to n (units_in e r) + units_over n es (rest_after e r)

-- the leftovers after them
unfoldable pub rest_over : List ℕ → List ℕ → List ℕ
rest_over [] r = r
rest_over (e ∷ es) r = rest_over es (rest_after e r)

-- ---- scans

abbrev pub NotRefused : Scanned → Type 0
NotRefused a = (m k : ℕ) → a ≡ Refused m k → ⊥

abbrev pub NoneRefused : List Scan → Type 0
NoneRefused [] = Unit {0}
NoneRefused (s ∷ ss) = NotRefused s.answer × NoneRefused ss

-- what the last of them left; q, if there is none
abbrev pub left_by : Plant → List Scan → Plant
left_by q [] = q
left_by q (s ∷ ss) = left_by s.plant ss

abbrev pub times_of : List Input → List ℕ
times_of is = map (λ (i : Input). i.elapsed) is

-- the units that the timers of the base n are given in a series of scans: in each, those of its elapsed time and of the leftovers that it finds
unfoldable pub units_in_series : ℕ → Device → List ℕ → Plant → List Input → ℕ
units_in_series n v f q [] = 0
units_in_series n v f q (i ∷ is) = given_to n (units_in i.elapsed q.rest) + units_in_series n v f (scan_with v f q i).plant is

-- THE LAW, of every file f on a device v. In it n is any base, es any split of a time, r any leftovers; e is any elapsed time, b any budget, and q any
-- memory and leftovers.
pub record Time (v : Device) (f : List ℕ) : Type 0 where
  -- each timer has one of the three bases
  pub bases : (i : ℕ) → Base (base_of i)
  -- Over any split of a time into scans nothing is lost and nothing is added: the units given, each of n milliseconds, and what is left over at the end
  -- are all of that time and what was left over at the start.
  pub none_lost : (n : ℕ) → Base n → (es r : List ℕ) → units_over n es r * n + leftover_of n (rest_over es r) ≡ time_of es + leftover_of n r
  -- Two scans give together the units of one scan of both times, and leave its leftovers;
  pub two_given : (n : ℕ) → Base n → (e e' : ℕ) (r : List ℕ)
      → given_to n (units_in e r) + given_to n (units_in e' (rest_after e r)) ≡ given_to n (units_in (e + e') r)
  pub two_left : (e e' : ℕ) (r : List ℕ) → rest_after e' (rest_after e r) ≡ rest_after (e + e') r
  -- so does any split, of leftovers in their ranges.
  pub all_given : (n : ℕ) → Base n → (es r : List ℕ) → leftovers_fit r ≡ true → units_over n es r ≡ given_to n (units_in (time_of es) r)
  pub all_left : (es r : List ℕ) → leftovers_fit r ≡ true → rest_over es r ≡ rest_after (time_of es) r
  -- "Leftovers are set before record 0, even with budget 0.": by each scan that is not refused, whatever the program, the budget and the memory. They
  -- are then in their ranges.
  pub set_by_scan : (e b : ℕ) (q : Plant) → NotRefused (scan_for v f e b q).answer → (scan_for v f e b q).plant.rest ≡ rest_after e q.rest
  pub in_range : (e b : ℕ) (q : Plant) → NotRefused (scan_for v f e b q).answer → leftovers_fit (scan_for v f e b q).plant.rest ≡ true
  -- A refused scan leaves them as they were, and so does every scan of 0 ms.
  pub refused_keeps : (e b : ℕ) (q : Plant) (m k : ℕ) → (scan_for v f e b q).answer ≡ Refused m k → (scan_for v f e b q).plant.rest ≡ q.rest
  pub no_time_keeps : (b : ℕ) (q : Plant) → (scan_for v f 0 b q).plant.rest ≡ q.rest
  -- "carried from scan to scan": over any series of scans of which none is refused they, and the units given, are those of its elapsed times, and
  -- nothing is lost.
  pub carried : (q : Plant) (is : List Input) → NoneRefused (series v f q is)
      → (left_by q (series v f q is)).rest ≡ rest_over (times_of is) q.rest
  pub given : (n : ℕ) (q : Plant) (is : List Input) → NoneRefused (series v f q is)
      → units_in_series n v f q is ≡ units_over n (times_of is) q.rest
  pub none_lost_in_series : (n : ℕ) → Base n → (q : Plant) (is : List Input) → NoneRefused (series v f q is)
      → units_in_series n v f q is * n + leftover_of n (left_by q (series v f q is)).rest ≡ time_of (times_of is) + leftover_of n q.rest
