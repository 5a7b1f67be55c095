-- A series, computed: each scan goes on from what the one before it left, with the X that it is given.
use Prim.Native.Nat.{ℕ}
use mathlib.Core.List.{List, [], ◌∷◌, map}
use mathlib.Core.Path.{◌≡◌, refl}
use lib.ListN.{get_or, replicate}
use lib.IntN.{pos}
use Rattle.ec20.specs.Scanned.{Refused}
use Rattle.ec20.specs.Devices.{ec20}
use Rattle.ec20.specs.Registers.{word_at}
use Rattle.ec20.specs.Scan.{Scan}
use Rattle.ec20.proofs.Computing.{computing}
use Rattle.ec20.proofs.Files.{X, D, r0, r1, file, blank, still}
use Rattle.moving.specs.Series.{Input, series}

-- LD X0, INC D0, END
abbrev counter : List ℕ
counter = file (r1 1 (X 0) ∷ r1 37 (D 0) ∷ r0 23 ∷ [])

abbrev given : ℕ → ℕ → Input
given x e = record { x = x ∷ replicate 31 0; elapsed = e; budget = 100 }

-- of four scans the second is refused (elapsed time above 10,000) and the third has X0 off
pub counted : map (λ (s : Scan). word_at s.plant.mem.d 0) (series ec20 counter (still blank) (given 1 0 ∷ given 1 10001 ∷ given 0 0 ∷ given 1 10000 ∷ [])) ≡ pos 1 ∷ pos 1 ∷ pos 1 ∷ pos 2 ∷ []
unfolding computing series
counted = refl

pub second-refused : get_or (map (λ (s : Scan). s.answer) (series ec20 counter (still blank) (given 1 0 ∷ given 1 10001 ∷ []))) 1 (Refused 0 0) ≡ Refused 9 0
unfolding computing series
second-refused = refl

-- the leftovers are carried from scan to scan, by one that is refused as they were: 9 and 99, then 160 and 250 ms
pub carried : map (λ (s : Scan). s.plant.rest) (series ec20 counter (still blank) (given 1 99 ∷ given 1 10001 ∷ given 1 151 ∷ [])) ≡ (9 ∷ 99 ∷ []) ∷ (9 ∷ 99 ∷ []) ∷ (0 ∷ 50 ∷ []) ∷ []
unfolding computing series
carried = refl
