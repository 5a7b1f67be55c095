-- The theorems hold of a real file: a loop with a FOR 0 over a loop inside it, a jump over a loop, inside the loop and outside it.
use Prim.Native.Nat.{ℕ, ◌≤◌}
use mathlib.Core.Bool.{true, false}
use mathlib.Core.List.{List, [], ◌∷◌}
use mathlib.Core.Path.{◌≡◌, refl}
use native.Mathlib.Omega.{arith}
use lib.ListN.{replicate}
use Rattle.ec20.specs.declared.Units.{Units}
use Rattle.ec20.specs.Verdict.{Accepted}
use Rattle.ec20.specs.declared.Control.TheVariants.{Jumps}
use Rattle.ec20.specs.Basics.{some_below}
use Rattle.ec20.specs.Devices.{ec20}
use Rattle.ec20.specs.Check.{check_for, check_of}
use Rattle.ec20.specs.Code.{program_of}
use Rattle.ec20.specs.Control.{controls_of}
use Rattle.ec20.specs.Labels.{label_fault, Stands}
use Rattle.ec20.specs.Memory.{Memory, memory}
use Rattle.ec20.specs.Plant.{units_in}
use Rattle.ec20.specs.Scan.{run_of, start_world, fitting, scan_of}
use Rattle.ec20.proofs.Computing.{computing}
use Rattle.ec20.proofs.Files.{X, Y, M, r0, r1, LD, FOR, NEXT, CJ, LBL, file, t9, blank, still}
use Rattle.bound.specs.Scans.{Quiet, EndsIn}
use Rattle.bound.proofs.LabelRule.{label-rule}
use Rattle.bound.proofs.Accepted.{accepted-right}
use Rattle.bound.proofs.Theorem.{is_jump, at_most_w, exactly_w, no_jump, scan-of-ends}

abbrev real : List ℕ
real =
    file (
    FOR 3
    ∷ LD (X 0)
    ∷ r1 12 (Y 0)
    ∷ FOR 0
    ∷ FOR 5
    ∷ r0 0
    ∷ NEXT
    ∷ NEXT
    ∷ LD (X 1)
    ∷ CJ 1
    ∷ FOR 4
    ∷ r0 0
    ∷ NEXT
    ∷ LBL 1
    ∷ NEXT
    ∷ LD (M 0)
    ∷ CJ 2
    ∷ FOR 2
    ∷ r0 0
    ∷ NEXT
    ∷ LBL 2
    ∷ r0 23
    ∷ [])

-- it is accepted: 22 records, W 58
real-ok : check_for ec20 real ≡ Accepted 22 58
unfolding computing
real-ok = refl

-- so, whatever memory, elapsed time and budget are, no scan of it makes more than 58 steps
real-most : (e : Units) (b : ℕ) (c : Memory) → (run_of (program_of real) e b 0 (start_world ec20 c)).steps ≤ 58
real-most e b c = at_most_w ec20 real 22 58 real-ok e c b

-- and with a budget of 58 the answer of memory that fits is "ended"
blank-fits : fitting ec20 7 (still blank) ≡ true
unfolding computing
blank-fits = refl

real-ends : EndsIn (scan_of real 7 58 (still blank)).answer 22 58
unfolding check_of
real-ends = scan-of-ends real 22 58 real-ok 7 58 (still blank) (omega arith) blank-fits

abbrev none-given : Units
none-given = units_in 0 (0 ∷ 0 ∷ [])

-- no jump taken: X1 and M0 are off
none-taken : (run_of (program_of real) none-given 60 0 (start_world ec20 blank)).steps ≡ 58
unfolding computing
none-taken = refl

-- both jumps taken
on : Memory
on = memory (2 ∷ replicate 31 0) blank.y (1 ∷ replicate 249 0) blank.sm blank.t blank.d blank.tv

both-taken : (run_of (program_of real) none-given 60 0 (start_world ec20 on)).steps ≡ 26
unfolding computing on
both-taken = refl

-- the first CJ's label stands where it must, and so the check finds no fault in it
real-stands : Stands (controls_of (program_of real)) 22 9 1 13
unfolding computing
real-stands = record { first = refl; later = omega arith; body = refl }

real-jumps : controls_of (program_of real) 9 ≡ Jumps 1
unfolding computing
real-jumps = refl

real-label : label_fault (controls_of (program_of real)) 22 9 (Jumps 1) ≡ false
real-label =
    let walks = (accepted-right ec20 real 22 58 real-ok).walks in
    (label-rule (controls_of (program_of real)) 22 22 58 walks 9 1 (omega arith) real-jumps).1 13 real-stands

-- T9 has no CJ: just W steps, whatever memory is
t9-ok : check_for ec20 t9 ≡ Accepted 5 11
unfolding computing
t9-ok = refl

t9-straight : some_below 5 (λ k. is_jump (controls_of (program_of t9) k)) ≡ false
unfolding computing
t9-straight = refl

pub t9-quiet : (e : Units) (c : Memory) → Quiet (program_of t9) e (start_world ec20 c)
t9-quiet e c = no_jump ec20 t9 5 11 t9-ok e c t9-straight

t9-steps : (e : Units) (b : ℕ) (c : Memory) → 11 ≤ b → (run_of (program_of t9) e b 0 (start_world ec20 c)).steps ≡ 11
t9-steps e b c h = exactly_w ec20 t9 5 11 t9-ok e c b h (t9-quiet e c)
