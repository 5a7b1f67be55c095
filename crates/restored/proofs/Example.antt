-- Torn files and what comes of them, computed. Assumes nothing.
use Prim.Native.Nat.{ℕ, zero, suc, ◌≤◌, ◌<◌}
use mathlib.Core.Bool.{Bool, true, ◌&&◌}
use mathlib.Core.List.{List, [], ◌∷◌, ◌++◌}
use mathlib.Core.Path.{◌≡◌, refl}
use native.Mathlib.Omega.{arith}
use lib.Dec.{ltb}
use lib.ListN.{length, replicate, take}
use borrow.Author.Tests.{ltb-true}
use Rattle.ec20.proofs.Computing.{computing}
use Rattle.ec20.proofs.Files.{K, SM, D, r0, r1, NOP, LD, FOR, NEXT, END, joined, file, t9}
use Rattle.ec20.proofs.Tests.{both}
use Rattle.ec20.specs.Buffer.{sent}
use Rattle.ec20.specs.Check.{check_of}
use Rattle.ec20.specs.Devices.{ec20}
use Rattle.ec20.specs.File.{byte_at}
use Rattle.ec20.specs.Verdict.{Refused as Unfit}
use Rattle.restored.proofs.Restored.{restored}
use Rattle.restored.specs.Restored.{Sound}
use Rattle.torn.specs.Kept.{passes, run_of, end_of, kept_of}
use Rattle.torn.specs.Salvage.{kept_in, file_with, saved, salvage_for, salvage_of}
use Rattle.torn.specs.Salvaged.{Refused, Done}

-- an output of n bytes
abbrev out : ℕ → List ℕ
out n = replicate n 9

-- the five records of t9
abbrev five : List ℕ
five = joined (FOR 3 ∷ LD (SM 0) ∷ r1 37 (D 0) ∷ NEXT ∷ END ∷ [])

-- the shortest program: END alone
abbrev shortest : List ℕ
shortest = 23 ∷ replicate 19 0 ++ (1 ∷ 0 ∷ 1 ∷ 0 ∷ 28 ∷ 0 ∷ 0 ∷ 0 ∷ [])

-- a file that is not torn comes out as it is, and its trailer is the rest; the output's last twelve bytes stay
whole : salvage_of t9 (out 120) ≡ saved (Done 5 0 8) (t9 ++ out 12)
unfolding computing passes run_of end_of kept_of kept_in file_with salvage_for salvage_of
whole = refl

-- t9 is an accepted file without comment, of bytes
abbrev below : List ℕ → Bool
below [] = true
below (a ∷ l) = ltb a 256 && below l

bytes_below : (l : List ℕ) → below l ≡ true → (i : ℕ) → byte_at l i < 256
bytes_below [] e i = omega arith
bytes_below (a ∷ l) e zero = ltb-true a 256 (both (ltb a 256) (below l) e).0
bytes_below (a ∷ l) e (suc i) = bytes_below l (both (ltb a 256) (below l) e).1 i

t9-sound : Sound ec20 t9 5
unfolding computing
t9-sound = record { bytes = bytes_below t9 refl; steps = 11; accepted = refl; bare = refl }

-- so the theorem says the same of any output that it fits
t9-unchanged : (b : List ℕ) → 108 ≤ length b → salvage_for ec20 t9 b ≡ saved (Done 5 0 8) (sent t9 b)
t9-unchanged b l = (restored ec20 t9 5 t9-sound).unchanged b l

-- with another trailer
scrambled : salvage_of (five ++ replicate 8 255) (out 108) ≡ saved (Done 5 0 8) t9
unfolding computing passes run_of end_of kept_of kept_in file_with salvage_for salvage_of
scrambled = refl

-- with none
torn-off : salvage_of five (out 108) ≡ saved (Done 5 0 0) t9
unfolding computing passes run_of end_of kept_of kept_in file_with salvage_for salvage_of
torn-off = refl

-- cut after 50 bytes: two records and half of one
cut : salvage_of (take 50 t9) (out 68) ≡ saved (Done 2 1 10) (file (FOR 3 ∷ LD (SM 0) ∷ END ∷ []))
unfolding computing passes run_of end_of kept_of kept_in file_with salvage_for salvage_of
cut = refl

-- END in the middle: the records behind it are part of the rest
middle : salvage_of (file (NOP ∷ END ∷ NOP ∷ END ∷ [])) (out 48) ≡ saved (Done 2 0 48) (file (NOP ∷ END ∷ []))
unfolding computing passes run_of end_of kept_of kept_in file_with salvage_for salvage_of
middle = refl

-- no byte
nothing : salvage_of [] (out 28) ≡ saved (Done 0 1 0) shortest
unfolding computing passes run_of end_of kept_of kept_in file_with salvage_for salvage_of
nothing = refl

-- one byte, though it is that of END
one_byte : salvage_of (23 ∷ []) (out 28) ≡ saved (Done 0 1 1) shortest
unfolding computing passes run_of end_of kept_of kept_in file_with salvage_for salvage_of
one_byte = refl

-- 2: the first record has the number 24
unknown : salvage_of (file (r0 24 ∷ END ∷ [])) (out 28) ≡ saved (Done 0 1 48) shortest
unfolding computing passes run_of end_of kept_of kept_in file_with salvage_for salvage_of
unknown = refl

-- 2: a spare byte that is not 0
spare : salvage_of (file (NOP ∷ (23 ∷ 1 ∷ replicate 18 0) ∷ END ∷ [])) (out 48) ≡ saved (Done 1 1 48) (file (NOP ∷ END ∷ []))
unfolding computing passes run_of end_of kept_of kept_in file_with salvage_for salvage_of
spare = refl

-- 3: INC of a constant
operand : salvage_of (file (LD (SM 0) ∷ r1 37 (K 0) ∷ END ∷ [])) (out 48) ≡ saved (Done 1 1 48) (file (LD (SM 0) ∷ END ∷ []))
unfolding computing passes run_of end_of kept_of kept_in file_with salvage_for salvage_of
operand = refl

-- 4 is not asked: INC D7900 is kept, and the check refuses what is written
abbrev in_work : List ℕ
in_work = file (LD (SM 0) ∷ r1 37 (D 7900) ∷ END ∷ [])

kept-in-work : salvage_of in_work (out 68) ≡ saved (Done 3 0 8) in_work
unfolding computing passes run_of end_of kept_of kept_in file_with salvage_for salvage_of
kept-in-work = refl

refused-then : check_of in_work ≡ Unfit 4 1
unfolding computing
refused-then = refl

-- 16: an output one byte short stays as it was
short : salvage_of t9 (out 107) ≡ saved (Refused 16 0) (out 107)
unfolding computing passes run_of end_of kept_of kept_in file_with salvage_for salvage_of
short = refl
