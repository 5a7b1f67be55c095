-- The theorems on a real program: words D200 and D203 in use, pool 200 to 204.
use Prim.Native.Nat.{ℕ, ◌≤◌}
use mathlib.Core.Bool.{true, false}
use mathlib.Core.Path.{◌≡◌, refl}
use native.Mathlib.Omega.{arith}
use Rattle.ec20.proofs.Computing.{computing}
use Rattle.ec20.proofs.Files.{D, r1, r2, alone}
use Rattle.ec20.specs.Devices.{ec20}
use Rattle.ec20.specs.File.{Records, records_of}
use Rattle.ec20.specs.Move.{block, pool, is_place, place_of}
use Rattle.ec20.specs.Operands.{first_bad}
use Rattle.ec20.specs.Found.{At, Nowhere}
use Rattle.ec20.specs.Judged.{Fine}
use Rattle.places.specs.Right.{Right}
use Rattle.places.specs.Runs.{spare}
use Rattle.places.proofs.Theorems.{the-place, no_place}

-- LD SM0, MOV D200 D203, END
abbrev uses : Records
uses = records_of (alone (r2 32 (D 200) (D 203)))

uses-fine : first_bad ec20 uses ≡ Fine
unfolding computing
uses-fine = refl

-- a gap of two words
gap : place_of ec20 uses (block 100 2) (pool 200 204) ≡ At 201
unfolding computing
gap = refl

-- and none of three
no_gap : place_of ec20 uses (block 100 3) (pool 200 204) ≡ Nowhere
unfolding computing
no_gap = refl

pub gap-is-right : Right ec20 uses (block 100 2) (pool 200 204) 201
gap-is-right = (the-place ec20 uses (block 100 2) (pool 200 204) (omega arith) (omega arith) (omega arith) uses-fine 201 gap).0

pub gap-is-lowest : (p : ℕ) → Right ec20 uses (block 100 2) (pool 200 204) p → 201 ≤ p
gap-is-lowest = (the-place ec20 uses (block 100 2) (pool 200 204) (omega arith) (omega arith) (omega arith) uses-fine 201 gap).1

pub none-of-three : (p : ℕ) → Right ec20 uses (block 100 3) (pool 200 204) p → ⊥
none-of-three = no_place ec20 uses (block 100 3) (pool 200 204) (omega arith) (omega arith) (omega arith) uses-fine no_gap

-- Why 3 must have been judged: NOP with D201, which 3 refuses, has an extent of no words there. It holds none of D200 and D201, which are free, and
-- meets the place that they make.
abbrev refused : Records
refused = records_of (alone (r1 0 (D 201)))

pub free-words : (spare ec20 refused (block 100 2) 200 ≡ true) × (spare ec20 refused (block 100 2) 201 ≡ true)
unfolding computing spare
free-words = (refl, refl)

pub no-place-there : is_place ec20 refused (block 100 2) (pool 200 204) 200 ≡ false
unfolding computing
no-place-there = refl
