-- The theorem holds of a real file: a comment of three bytes, LD SM0, DMOV D100 D102, DDIV D102 by D200 to D104, INC D109, END. The block D100 to
-- D109 goes to D202, past the pair at D200.
use Prim.Native.Nat.{ℕ, zero, suc, ◌+◌, ◌<◌}
use mathlib.Core.Bool.{Bool, true, ◌&&◌}
use mathlib.Core.List.{List, [], ◌∷◌}
use mathlib.Core.Path.{◌≡◌, refl, ◌∙◌}
use native.Mathlib.Omega.{arith}
use lib.Dec.{ltb}
use lib.ListN.{get_or}
use borrow.Author.Tests.{ltb-true}
use Rattle.ec20.proofs.Computing.{computing}
use Rattle.ec20.proofs.Files.{SM, D, r0, r1, r2, r3, file}
use Rattle.ec20.proofs.Tests.{both}
use Rattle.ec20.specs.Moved.{To}
use Rattle.ec20.specs.Verdict.{Accepted}
use Rattle.ec20.specs.Check.{check_of}
use Rattle.ec20.specs.Devices.{ec20}
use Rattle.ec20.specs.File.{byte_at}
use Rattle.ec20.specs.Move.{block, pool, move, move_of}
use Rattle.moved.specs.Moves.{Moves}
use Rattle.moved.proofs.Moved.{moved, moved-check}

-- ---- a list of bytes, by a computed test

abbrev all-bytes : List ℕ → Bool
all-bytes [] = true
all-bytes (x ∷ l) = ltb x 256 && all-bytes l

pub bytes_below : (l : List ℕ) → all-bytes l ≡ true → (i : ℕ) → get_or l i 0 < 256
bytes_below [] e i = omega arith
bytes_below (x ∷ l) e zero = ltb-true _ _ (both (ltb x 256) (all-bytes l) e).0
bytes_below (x ∷ l) e (suc i) = bytes_below l (both (ltb x 256) (all-bytes l) e).1 i

-- ---- the file, with its block at a

abbrev at : ℕ → List ℕ
at a = 82 ∷ 49 ∷ 10 ∷ file (r1 1 (SM 0) ∷ r2 48 (D a) (D (a + 2)) ∷ r3 52 (D (a + 2)) (D 200) (D (a + 4)) ∷ r1 37 (D (a + 9)) ∷ r0 23 ∷ [])

-- the mover answers D202
pub answers : move_of (at 100) (block 100 10) (pool 195 400) ≡ move (To 202) (at 202)
unfolding computing
answers = refl

file-bytes : (i : ℕ) → byte_at (at 100) i < 256
file-bytes = bytes_below (at 100) refl

pub moves : Moves ec20 (at 100) (block 100 10) 202 (at 202)
moves = moved (at 100) file-bytes (block 100 10) (pool 195 400) 202 (at 202) answers

-- and the moved file is accepted, as the old one is
accepted-before : check_of (at 100) ≡ Accepted 5 5
unfolding computing
accepted-before = refl

pub accepted-after : check_of (at 202) ≡ Accepted 5 5
accepted-after = moved-check (at 100) file-bytes (block 100 10) (pool 195 400) 202 (at 202) answers ∙ accepted-before
