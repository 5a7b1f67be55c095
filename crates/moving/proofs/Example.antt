-- The theorems hold of real files: D0 and D1, a pair, and D2 and D3 change places. In the second file D2 stands for D0.
use Prim.Native.Nat.{ℕ, zero, suc, ◌+◌, ◌<◌}
use mathlib.Core.Bool.{false}
use mathlib.Core.List.{List, [], ◌∷◌, map}
use mathlib.Core.Path.{◌≡◌, refl, sym, ap, fun_ext}
use native.Mathlib.Omega.{arith}
use lib.Dec.{ltb}
use lib.IntN.{ℤ, pos, neg_ℤ}
use borrow.Author.Tests.{le-ltb, le-leb}
use Rattle.ec20.specs.declared.Operand.{Operand}
use Rattle.ec20.specs.declared.Instr.{Instr}
use Rattle.ec20.specs.Verdict.{Accepted}
use Rattle.ec20.specs.Answers.{told_by_map}
use Rattle.ec20.specs.Devices.{ec20, kind_d, within}
use Rattle.ec20.specs.Bits.{bit_at}
use Rattle.ec20.specs.Code.{Program, program_of}
use Rattle.ec20.specs.Check.{check_for}
use Rattle.ec20.specs.Registers.{word_at}
use Rattle.ec20.specs.Plant.{Plant}
use Rattle.ec20.specs.Scan.{scan_for}
use Rattle.ec20.specs.UseMap.{map_for}
use Rattle.ec20.specs.Move.{block}
use Rattle.ec20.specs.Exchange.{swapped}
use Rattle.ec20.proofs.Computing.{computing}
use Rattle.ec20.proofs.Tests.{differ}
use Rattle.ec20.proofs.Files.{K, SM, D, r0, r1, r2, r3, file, blank, still}
use Rattle.moving.specs.Rename.{Swap, rename_operand, rename_instr, rename_program, ex_plant, ex_scan, Along, Whole}
use Rattle.moving.specs.Series.{Input, series}
use Rattle.moving.proofs.Load.{along_one}
use Rattle.moving.proofs.Series.{series-sim}
use Rattle.moving.proofs.Work.{work-kept}
use Rattle.moving.proofs.Map.{map-kept}

-- LD SM0, DMOV 100000 to the pair at D n, DDIV of that pair by 3 to D20 to D23, MOV of D n to D8, END
abbrev sample : ℕ → List ℕ
sample n = file (r1 1 (SM 0) ∷ r2 48 (K 100000) (D n) ∷ r3 52 (D n) (K 3) (D 20) ∷ r2 32 (D n) (D 8) ∷ r0 23 ∷ [])

-- operands of the first
abbrev d : ℕ → Operand
d n = record { kind = kind_d; group = 0; value = n }

abbrev none : Operand
none = record { kind = 0; group = 0; value = 0 }

pub σ : ℕ → ℕ
σ = swapped (block 0 2) 2

past : (i : ℕ) → σ (suc (suc (suc (suc i)))) ≡ suc (suc (suc (suc i)))
unfolding σ swapped within
past i =
    rw (le-leb 0 (suc (suc (suc (suc i)))) (omega arith), le-ltb (suc (suc (suc (suc i)))) 2 (omega arith), le-ltb (suc (suc (suc (suc i)))) 4 (omega arith), le-leb 2 (suc (suc (suc (suc i)))) (omega arith))

twice : (i : ℕ) → σ (σ i) ≡ i
unfolding σ swapped within
twice zero = refl
twice (suc zero) = refl
twice (suc (suc zero)) = refl
twice (suc (suc (suc zero))) = refl
twice (suc (suc (suc (suc i)))) = rw (past i, past i)

stays : (i : ℕ) → i < 8000 → σ i < 8000
unfolding σ swapped within
stays zero l = omega arith
stays (suc zero) l = omega arith
stays (suc (suc zero)) l = omega arith
stays (suc (suc (suc zero))) l = omega arith
stays (suc (suc (suc (suc i)))) l = rw (past i) l

swap : Swap σ 8000
swap = record { twice = twice; stays = stays }

-- the check says the same of both
same_check : check_for ec20 (sample 2) ≡ check_for ec20 (sample 0)
unfolding computing
same_check = refl

-- the second program is the first, renamed
same_code : (k : ℕ) → (program_of (sample 2)).code k ≡ rename_instr σ ((program_of (sample 0)).code k)
unfolding computing rename_instr rename_operand σ
same_code zero = refl
same_code (suc zero) = refl
same_code (suc (suc zero)) = refl
same_code (suc (suc (suc zero))) = refl
same_code (suc (suc (suc (suc zero)))) = refl
same_code (suc (suc (suc (suc (suc k))))) =
    let h : ltb (suc (suc (suc (suc (suc k))))) 5 ≡ false = le-ltb (suc (suc (suc (suc (suc k))))) 5 (omega arith) in rw h

same-program : program_of (sample 2) ≡ rename_program σ (program_of (sample 0))
unfolding computing
same-program = ap (λ (c : ℕ → Instr). let p : Program = record { edition = 1; count = 5; code = c } in p) (fun_ext same_code)

-- each extent goes along whole: the pair at D0, the four words at D20, the words D0 and D8; constants and what is no operand need not
pair-along : (j : ℕ) → j < 2 → σ (0 + j) ≡ σ 0 + j
unfolding σ swapped within
pair-along zero l = refl
pair-along (suc zero) l = refl
pair-along (suc (suc j)) l = absurd (omega arith)

four-along : (j : ℕ) → j < 4 → σ (20 + j) ≡ σ 20 + j
unfolding σ swapped within
four-along zero l = refl
four-along (suc zero) l = refl
four-along (suc (suc zero)) l = refl
four-along (suc (suc (suc zero))) l = refl
four-along (suc (suc (suc (suc j)))) l = absurd (omega arith)

whole : (k : ℕ) → Whole σ ((program_of (sample 0)).code k)
unfolding computing Whole Along
whole zero = tt
whole (suc zero) = (λ e. differ (sym e), λ e. differ (sym e), λ e. pair-along)
whole (suc (suc zero)) = (λ e. pair-along, λ e. differ (sym e), λ e. four-along)
whole (suc (suc (suc zero))) = (along_one σ (d 0), along_one σ none, along_one σ (d 8))
whole (suc (suc (suc (suc zero)))) = tt
whole (suc (suc (suc (suc (suc k))))) =
    let h : ltb (suc (suc (suc (suc (suc k))))) 5 ≡ false = le-ltb (suc (suc (suc (suc (suc k))))) 5 (omega arith) in rw h tt

-- so every series of scans of the second from the exchanged memory on is the exchanged series of the first
pub series-same : (q : Plant) (is : List Input) → series ec20 (sample 2) (ex_plant σ q) is ≡ map (ex_scan σ) (series ec20 (sample 0) q is)
series-same = series-sim σ ec20 swap (sample 0) (sample 2) same_check same-program whole

-- and it is not for nothing: the first leaves 100000 in the pair at D0, the second in the pair at D2, and both leave the quotient 33333 at D20
abbrev after : ℕ → ℕ → ℤ
after n i = word_at (scan_for ec20 (sample n) 0 100 (still blank)).plant.mem.d i

pub in-D0 : (after 0 0 ≡ pos 1) × (after 0 1 ≡ neg_ℤ (pos 31072)) × (after 0 2 ≡ pos 0) × (after 0 8 ≡ pos 1) × (after 0 21 ≡ neg_ℤ (pos 32203)) × (after 0 23 ≡ pos 1)
unfolding computing
in-D0 = (refl, refl, refl, refl, refl, refl)

pub in-D2 : (after 2 2 ≡ pos 1) × (after 2 3 ≡ neg_ℤ (pos 31072)) × (after 2 0 ≡ pos 0) × (after 2 8 ≡ pos 1) × (after 2 21 ≡ neg_ℤ (pos 32203)) × (after 2 23 ≡ pos 1)
unfolding computing
in-D2 = (refl, refl, refl, refl, refl, refl)

-- D5 is not marked written, and D7950 lies in WORK: no scan changes them, whatever the memory
accepted : check_for ec20 (sample 0) ≡ Accepted 5 5
unfolding computing
accepted = refl

unmarked : bit_at (told_by_map ec20 (map_for ec20 (sample 0))).written 5 ≡ 0
unfolding computing
unmarked = refl

pub D5-kept : (e budget : ℕ) (q : Plant) → word_at (scan_for ec20 (sample 0) e budget q).plant.mem.d 5 ≡ word_at q.mem.d 5
D5-kept = map-kept ec20 (sample 0) 5 5 accepted 5 (omega arith) unmarked

pub D7950-kept : (e budget : ℕ) (q : Plant) → word_at (scan_for ec20 (sample 0) e budget q).plant.mem.d 7950 ≡ word_at q.mem.d 7950
D7950-kept = work-kept ec20 (sample 0) 5 5 accepted 7950 (omega arith)
