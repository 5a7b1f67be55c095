-- Timers at their own speed, computed: the bases at their edges, whole units, and leftovers that are carried from scan to scan. Assumes nothing.
use Prim.Native.Nat.{ℕ}
use mathlib.Core.List.{List, [], ◌∷◌}
use mathlib.Core.Path.{◌≡◌, refl}
use lib.ListN.{replicate, get_or}
use lib.IntN.{ℤ, pos}
use Rattle.ec20.specs.Scanned.{Watchdog}
use Rattle.ec20.specs.Memory.{with_sm}
use Rattle.ec20.specs.Plant.{Plant, plant}
use Rattle.ec20.specs.Scan.{Scan, scan, scan_of, plain_scan}
use Rattle.ec20.proofs.Computing.{computing}
use Rattle.ec20.proofs.Files.{K, SM, T, r0, r1, r2, file, alone, blank}

-- LD SM0, TON Ti K32767, END
abbrev ton : ℕ → List ℕ
ton i = alone (r2 18 (T i) (K 32767))

-- the value of timer i that a scan leaves
abbrev value : ℕ → Scan → ℤ
value i s = get_or s.plant.mem.tv i (pos 0)

-- timers of value 0, and these leftovers: of 10 ms, of 100 ms
abbrev from : ℕ → ℕ → Plant
from a b = plant blank (a ∷ b ∷ [])

-- the value of timer i after a scan of e milliseconds
abbrev after : ℕ → ℕ → Plant → ℤ
after i e q = value i (plain_scan (ton i) e q)

-- FOR 3, LD SM0, TON Ti K32767, NEXT, END
abbrev thrice : ℕ → List ℕ
thrice i = file (r1 19 (K 3) ∷ r1 1 (SM 0) ∷ r2 18 (T i) (K 32767) ∷ r0 20 ∷ r0 23 ∷ [])

-- the plant after two scans, of so many milliseconds each
abbrev twice : List ℕ → ℕ → ℕ → Plant → Plant
twice f a b q = (plain_scan f b (plain_scan f a q).plant).plant

pub record Timed : Type 0 where
  -- "T0 to T209 are 100 ms, T210 to T251 are 10 ms, T252 to T255 are 1 ms"
  pub t0 : after 0 250 (from 0 0) ≡ pos 2
  pub t209 : after 209 250 (from 0 0) ≡ pos 2
  pub t210 : after 210 250 (from 0 0) ≡ pos 25
  pub t251 : after 251 250 (from 0 0) ≡ pos 25
  pub t252 : after 252 250 (from 0 0) ≡ pos 250
  pub t255 : after 255 250 (from 0 0) ≡ pos 250
  pub longest : after 209 10000 (from 9 99) ≡ pos 100
  pub longest_tens : after 251 10000 (from 9 99) ≡ pos 1000
  pub longest_ones : after 252 10000 (from 9 99) ≡ pos 10000
  -- "Whole units from leftover plus elapsed": one millisecond makes a unit of each
  pub last_ms : after 209 1 (from 9 99) ≡ pos 1
  pub last_ms_tens : after 210 1 (from 9 99) ≡ pos 1
  pub last_ms_ones : after 252 1 (from 9 99) ≡ pos 1
  pub not_yet : after 209 1 (from 9 98) ≡ pos 0
  pub not_yet_tens : after 210 1 (from 8 99) ≡ pos 0
  -- each base has its own leftover
  pub other_leftover : after 209 1 (from 9 0) ≡ pos 0
  pub other_leftover_tens : after 210 1 (from 0 99) ≡ pos 0
  pub left : (plain_scan (ton 0) 250 (from 0 0)).plant.rest ≡ 0 ∷ 50 ∷ []
  pub left_both : (plain_scan (ton 0) 255 (from 9 99)).plant.rest ≡ 4 ∷ 54 ∷ []
  -- "carried from scan to scan": 50 and 50 are 100, 9 and 1 are 10
  pub carried : get_or (twice (ton 0) 50 50 (from 0 0)).mem.tv 0 (pos 0) ≡ pos 1
  pub carried_tens : get_or (twice (ton 210) 9 1 (from 0 0)).mem.tv 210 (pos 0) ≡ pos 1
  -- they go on where no timer does
  pub with_no_timer : (plain_scan (file (r0 23 ∷ [])) 7 (from 5 95)).plant.rest ≡ 2 ∷ 2 ∷ []
  -- "Leftovers are set before record 0, even with budget 0."
  pub budget_0 : scan_of (ton 0) 255 0 (from 9 99) ≡ scan (Watchdog (record { steps = 0; stop = 0; error = 0; at = 0 })) (plant (with_sm blank (1 ∷ replicate 31 0)) (4 ∷ 54 ∷ []))
  -- units are fixed once for a scan, and counted at each execution: three times
  pub each : value 0 (plain_scan (thrice 0) 250 (from 0 0)) ≡ pos 6
  pub each_tens : value 251 (plain_scan (thrice 251) 25 (from 5 0)) ≡ pos 9
  pub each_ones : value 252 (plain_scan (thrice 252) 25 (from 5 0)) ≡ pos 75
  -- 0 ms: nothing is counted, and both leftovers stay
  pub none : after 252 0 (from 9 99) ≡ pos 0
  pub none_left : (plain_scan (ton 0) 0 (from 9 99)).plant.rest ≡ 9 ∷ 99 ∷ []

timed : Timed
unfolding computing
timed =
    record { t0 = refl; t209 = refl; t210 = refl; t251 = refl; t252 = refl; t255 = refl; longest = refl; longest_tens = refl; longest_ones = refl; last_ms = refl; last_ms_tens = refl; last_ms_ones = refl; not_yet = refl; not_yet_tens = refl; other_leftover = refl; other_leftover_tens = refl; left = refl; left_both = refl; carried = refl; carried_tens = refl; with_no_timer = refl; budget_0 = refl; each = refl; each_tens = refl; each_ones = refl; none = refl; none_left = refl }
