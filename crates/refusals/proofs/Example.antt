-- Each line of the table on a small file: the line as it is met there, what the check answers, and all that the table says of it.
use Prim.Native.Nat.{ℕ, zero, suc}
use mathlib.Core.List.{List, [], ◌∷◌}
use mathlib.Core.Path.{◌≡◌, refl, sym, ap, subst}
use native.Mathlib.Omega.{arith}
use lib.IntN.{pos, neg_ℤ}
use lib.ListN.{replicate, length}
use lib.Signed.{le_z_yes}
use Rattle.ec20.specs.declared.Operand.{Operand}
use Rattle.ec20.specs.Verdict.{Verdict}
use Rattle.ec20.specs.Verdict.{Accepted, Refused}
use Rattle.ec20.specs.Devices.{ec20}
use Rattle.ec20.specs.Code.{program_of}
use Rattle.ec20.specs.Roles.{source}
use Rattle.ec20.specs.Control.{controls_of}
use Rattle.ec20.specs.Labels.{opens_of}
use Rattle.ec20.specs.Check.{check_for}
use Rattle.ec20.proofs.Computing.{computing}
use Rattle.ec20.proofs.Files.{K, Y, SM, D, r0, r1, r2, NOP, LD, FOR, NEXT, CJ, LBL, END, file, alone}
use Rattle.ec20.proofs.Tests.{differ}
use Rattle.refusals.specs.First.{Never}
use Rattle.refusals.specs.Frame.{Line1, under_8, edition, no_records, many_records, distance, past_start, comment}
use Rattle.refusals.specs.Records.{Line2, unknown, first, second, third, Line3, wrong, Line4, meets}
use Rattle.refusals.specs.Admits.{as_it_is, less_2_to_32, Source16, constant_16, group_16_M, Admits, at_unused}
use Rattle.refusals.specs.Records.{Line2to4, by_2, by_3, by_4, spare}
use Rattle.refusals.specs.Keeps.{acts, from_12_to_14}
use Rattle.refusals.specs.Rung.{rung_at, Line5, broken}
use Rattle.refusals.specs.Structure.{open_at, Line6, stray_next, ninth_for, early_end, last_not_end, for_open_there}
use Rattle.refusals.specs.Labels.{Line7, set_twice, astray}
use Rattle.refusals.specs.Steps.{nothing, one_record, one_loop, WOf, Line8, above}
use Rattle.refusals.specs.Table.{Told, accepted, record_at, Not1, Not2to4, Not5, Not6, Not7, First2to4, First5, First6, First7}
use Rattle.refusals.proofs.Admits.{admitted}
use Rattle.refusals.proofs.Keeps.{formed}
use Rattle.refusals.proofs.Rung.{before, line-5 as rung-broken, not-line-5 as rung-kept}
use Rattle.refusals.proofs.Steps.{steady-single, end-single, line-8 as line-8-over}
use Rattle.refusals.proofs.Check.{told, only, answer}
use Rattle.refusals.proofs.Refused.{refused-1, refused-2, refused-3, refused-4, refused-5, refused-6, refused-7, refused-8}

-- ---- 1: seven bytes

abbrev file-1 : List ℕ
file-1 = replicate 7 0

line-1 : Line1 file-1
line-1 = under_8 (omega arith)

check-1 : check_for ec20 file-1 ≡ Refused 1 0
check-1 = (refused-1 ec20 file-1 0).1 (refl, line-1)

-- ---- 2: record 1 has the number 24

abbrev file-2 : List ℕ
file-2 = file (NOP ∷ r0 24 ∷ END ∷ [])

line-2 : Line2 (record_at file-2 1)
unfolding computing
line-2 = unknown refl

check-2 : check_for ec20 file-2 ≡ Refused 2 1
unfolding computing
check-2 = refl

table-2 : Not1 file-2 × First2to4 ec20 file-2 1 × Line2 (record_at file-2 1)
table-2 = (refused-2 ec20 file-2 1).0 check-2

-- ---- 3: INC of a constant, and NOP with an operand

abbrev file-3 : List ℕ
file-3 = file (LD (SM 0) ∷ r1 37 (K 0) ∷ r1 0 (K 0) ∷ END ∷ [])

line-3 : Line3 ec20 (record_at file-3 1)
unfolding computing
line-3 = wrong first (λ z. differ (sym (admitted ec20 (record_at file-3 1).first z)))

also-3 : Line3 ec20 (record_at file-3 2)
unfolding computing
also-3 = wrong first (λ z. differ (sym (admitted ec20 (record_at file-3 2).first z)))

check-3 : check_for ec20 file-3 ≡ Refused 3 1
unfolding computing
check-3 = refl

table-3 : Not1 file-3 × First2to4 ec20 file-3 1 × (Line2 (record_at file-3 1) → ⊥) × Line3 ec20 (record_at file-3 1)
table-3 = (refused-3 ec20 file-3 1).0 check-3

-- a 16-bit source at its edges: constants from -32768 to 32767, groups of n = 1 to 4 that end at M1999
abbrev number : ℕ → Operand
number u = record { kind = 1; group = 0; value = u }

abbrev of-M : ℕ → ℕ → Operand
of-M n a = record { kind = 4; group = n; value = a }

lowest : Source16 ec20 (number 4294934528)
lowest =
    constant_16 (record {
      kind = refl;
      group = refl;
      number = neg_ℤ (pos 32768);
      stands = less_2_to_32 (omega arith);
      from = le_z_yes tt;
      to = le_z_yes tt;
    })

highest : Source16 ec20 (number 32767)
highest =
    constant_16 (record { kind = refl; group = refl; number = pos 32767; stands = as_it_is (omega arith); from = le_z_yes tt; to = le_z_yes tt })

too-low : Admits ec20 (source 16) (number 4294934527) → ⊥
unfolding computing
too-low z = differ (sym (admitted ec20 (number 4294934527) z))

too-high : Admits ec20 (source 16) (number 32768) → ⊥
unfolding computing
too-high z = differ (sym (admitted ec20 (number 32768) z))

last_group : Source16 ec20 (of-M 4 1984)
last_group = group_16_M (record { kind = refl; from = omega arith; to = omega arith; inside = λ i h. omega arith })

past_the_end : Admits ec20 (source 16) (of-M 4 1985) → ⊥
unfolding computing
past_the_end z = differ (sym (admitted ec20 (of-M 4 1985) z))

group-of-five : Admits ec20 (source 16) (of-M 5 0) → ⊥
unfolding computing
group-of-five z = differ (sym (admitted ec20 (of-M 5 0) z))

-- ---- 4: DMOV to D7899, whose second word is D7900; DMOV to D7898 passes

abbrev file-4 : List ℕ
file-4 = alone (r2 48 (K 0) (D 7899))

line-4 : Line4 ec20 (record_at file-4 1)
unfolding computing
line-4 =
    meets 7900 second (record { written = refl; in_D = refl; from = omega arith; to = omega arith })
    (record { from = omega arith; to = omega arith })

check-4 : check_for ec20 file-4 ≡ Refused 4 1
unfolding computing
check-4 = refl

table-4 :
    Not1 file-4 × First2to4 ec20 file-4 1 × (Line2 (record_at file-4 1) → ⊥) × (Line3 ec20 (record_at file-4 1) → ⊥) × Line4 ec20 (record_at file-4 1)
table-4 = (refused-4 ec20 file-4 1).0 check-4

below-4 : check_for ec20 (alone (r2 48 (K 0) (D 7898))) ≡ Accepted 3 3
unfolding computing
below-4 = refl

-- ---- 5: LD (SM 0), LD (SM 0), OUT: the block stack is not empty

abbrev file-5 : List ℕ
file-5 = file (LD (SM 0) ∷ LD (SM 0) ∷ r1 12 (Y 0) ∷ END ∷ [])

line-5 : Line5 (program_of file-5) 2
unfolding computing rung_at
line-5 =
    broken (before (program_of file-5) (formed file-5) 2) (λ k.
    let e : ◌≡◌ {A = ℕ} 1 0 = k.blockless (acts (from_12_to_14 (omega arith) (omega arith))) in
    omega arith)

check-5 : check_for ec20 file-5 ≡ Refused 5 2
unfolding computing
check-5 = refl

table-5 : Not1 file-5 × Not2to4 ec20 file-5 × First5 file-5 2
table-5 = (refused-5 ec20 file-5 2).0 check-5

-- ---- 6: a ninth open FOR

abbrev file-6 : List ℕ
file-6 = file (FOR 2 ∷ FOR 2 ∷ FOR 2 ∷ FOR 2 ∷ FOR 2 ∷ FOR 2 ∷ FOR 2 ∷ FOR 2 ∷ FOR 2 ∷ END ∷ [])

line-6 : Line6 (program_of file-6) 8
unfolding computing open_at
line-6 = ninth_for refl (omega arith)

check-6 : check_for ec20 file-6 ≡ Refused 6 8
unfolding computing
check-6 = refl

table-6 : Not1 file-6 × Not2to4 ec20 file-6 × Not5 file-6 × First6 file-6 8
table-6 = (refused-6 ec20 file-6 8).0 check-6

-- ---- 7: a label set twice; and a CJ out of its loop

abbrev file-7 : List ℕ
file-7 = file (LBL 5 ∷ LBL 5 ∷ END ∷ [])

line-7 : Line7 (program_of file-7) 1
unfolding computing
line-7 = set_twice {j = 0} refl (omega arith) refl

check-7 : check_for ec20 file-7 ≡ Refused 7 1
unfolding computing
check-7 = refl

table-7 : Not1 file-7 × Not2to4 ec20 file-7 × Not5 file-7 × Not6 file-7 × First7 file-7 1
table-7 = (refused-7 ec20 file-7 1).0 check-7

abbrev file-7-cj : List ℕ
file-7-cj = file (FOR 2 ∷ LD (SM 0) ∷ CJ 5 ∷ NEXT ∷ LBL 5 ∷ END ∷ [])

-- the label's first LBL is record 4, in no loop; the CJ stands in the loop of record 0
line-7-cj : Line7 (program_of file-7-cj) 2
unfolding computing
line-7-cj =
    astray refl (λ t s.
    let e : 4 ≡ t = cc s.first in
    let code = controls_of (program_of file-7-cj) in
    let n : ◌≡◌ {A = ℕ} 0 1 = ap length (subst (λ (j : ℕ). opens_of code j ≡ opens_of code 2) (sym e) s.body) in
    omega arith)

check-7-cj : check_for ec20 file-7-cj ≡ Refused 7 2
unfolding computing
check-7-cj = refl

-- ---- W: FOR 3, LD SM0, INC D0, NEXT, END has W 11 (T9), summed record by record

w-11 : WOf (program_of (file (FOR 3 ∷ LD (SM 0) ∷ r1 37 (D 0) ∷ NEXT ∷ END ∷ []))) 11
unfolding computing
w-11 =
    one_loop {b = 3} {n = 3} refl (one_record (steady-single _ tt) (one_record (steady-single _ tt) nothing)) refl
    (one_record (end-single _ refl) nothing)

-- ---- 8: W 10,000,000 passes, and one NOP more is 8

abbrev most : List ℕ → List ℕ
most r = file (FOR 2292 ∷ FOR 4361 ∷ NEXT ∷ NEXT ∷ NOP ∷ NOP ∷ r ∷ END ∷ [])

line-8 : Line8 (program_of (most NOP))
unfolding computing
line-8 =
    above
    (one_loop {b = 3} {n = 2292} refl (one_loop {b = 2} {n = 4361} refl nothing refl nothing) refl
    (one_record (steady-single _ tt) (one_record (steady-single _ tt) (one_record (steady-single _ tt) (one_record (end-single _ refl) nothing)))))
    (omega arith)

check-8 : check_for ec20 (most NOP) ≡ Refused 8 0
unfolding computing
check-8 = refl

table-8 :
    ◌≡◌ {A = ℕ} 0 0 × Not1 (most NOP) × Not2to4 ec20 (most NOP) × Not5 (most NOP) × Not6 (most NOP) × Not7 (most NOP) × Line8 (program_of (most NOP))
table-8 = (refused-8 ec20 (most NOP) 0).0 check-8

just-8 : check_for ec20 (file (FOR 2292 ∷ FOR 4361 ∷ NEXT ∷ NEXT ∷ NOP ∷ NOP ∷ END ∷ [])) ≡ Accepted 7 10000000
unfolding computing
just-8 = refl

-- ---- the order: record 0 breaks 5 and record 2 breaks 2, but record 1 is the first that breaks 2, 3 or 4

abbrev file-order : List ℕ
file-order = file (r1 12 (Y 0) ∷ r1 37 (D 7900) ∷ r0 24 ∷ END ∷ [])

order-5 : Line5 (program_of file-order) 0
unfolding computing rung_at
order-5 = rung-broken (program_of file-order) (formed file-order) 0 refl

order-2 : Line2 (record_at file-order 2)
unfolding computing
order-2 = unknown refl

check-order : check_for ec20 file-order ≡ Refused 4 1
unfolding computing
check-order = refl

-- so the table says 4 at record 1, and it says nothing else
order-only : {r : Verdict} → Told ec20 file-order r → r ≡ Refused 4 1
order-only t = only t (subst (Told ec20 file-order) check-order (told ec20 file-order))

-- ---- none: "The shortest program, END alone". No line holds, seen line by line and record by record, and so it is accepted.

abbrev shortest : List ℕ
shortest = file (END ∷ [])

not-1 : Not1 shortest
unfolding computing
not-1 (under_8 h) = omega arith
not-1 (edition g) = g refl
not-1 (no_records h) = omega arith
not-1 (many_records h) = omega arith
not-1 (distance g) = g refl
not-1 (past_start h) = omega arith
not-1 (comment h) = omega arith

not-2-4 : Line2to4 ec20 (record_at shortest 0) → ⊥
unfolding computing
not-2-4 (by_2 (unknown e)) = differ e
not-2-4 (by_2 (spare g)) = g refl
not-2-4 (by_3 (wrong first g)) = g (at_unused refl (record { kind = refl; group = refl; value = refl }))
not-2-4 (by_3 (wrong second g)) = g (at_unused refl (record { kind = refl; group = refl; value = refl }))
not-2-4 (by_3 (wrong third g)) = g (at_unused refl (record { kind = refl; group = refl; value = refl }))
not-2-4 (by_4 (meets i first t k)) = differ (sym t.written)
not-2-4 (by_4 (meets i second t k)) = differ (sym t.written)
not-2-4 (by_4 (meets i third t k)) = differ (sym t.written)

not-5 : Line5 (program_of shortest) 0 → ⊥
unfolding computing rung_at
not-5 l = rung-kept (program_of shortest) (formed shortest) 0 refl l

not-6 : Line6 (program_of shortest) 0 → ⊥
unfolding computing open_at
not-6 (stray_next e h) = let z : ◌≡◌ {A = ℕ} 0 1 = cc in omega arith
not-6 (ninth_for e h) = let z : ◌≡◌ {A = ℕ} 0 1 = cc in omega arith
not-6 (early_end e h) = omega arith
not-6 (last_not_end h g) = g refl
not-6 (for_open_there h g) = omega arith

not-7 : Line7 (program_of shortest) 0 → ⊥
unfolding computing
not-7 (set_twice e h g) = let z : ◌≡◌ {A = ℕ} 0 1 = cc in omega arith
not-7 (astray e g) = let z : ◌≡◌ {A = ℕ} 0 1 = cc in omega arith

-- of a file of one record
alone-never : (line : ℕ → Type 0) → (line 0 → ⊥) → Never 1 line
alone-never line g zero h l = g l
alone-never line g (suc j) h l = omega arith

check-shortest : check_for ec20 shortest ≡ Accepted 1 1
unfolding computing
check-shortest =
    answer ec20 shortest
    (accepted not-1 (alone-never _ not-2-4) (alone-never _ not-5) (alone-never _ not-6) (alone-never _ not-7)
    (λ l. let h = line-8-over (program_of shortest) l in omega (arith, h)) (one_record (end-single _ refl) nothing))
