-- At each record that a scan of an accepted program executes, what is done there has its meaning in document 01.
use Prim.Native.Nat.{ℕ, zero, suc, ◌<◌}
use mathlib.Core.Bool.{Bool, true, false}
use mathlib.Core.List.{List, [], ◌∷◌}
use mathlib.Core.Logic.{inl, inr}
use mathlib.Core.Path.{◌≡◌, refl, subst}
use native.Mathlib.Omega.{arith}
use Rattle.ec20.proofs.Computing.{computing}
use Rattle.ec20.proofs.Files.{Y, M, SM, D, KM, L, r0, r1, r2, file, alone, blank, still}
use Rattle.ec20.specs.declared.Instr.TheVariants.{Word}
use Rattle.ec20.specs.declared.Operand.{Operand}
use Rattle.ec20.specs.declared.Units.{Units}
use Rattle.ec20.specs.Verdict.{Accepted}
use Rattle.ec20.specs.Check.{check_for}
use Rattle.ec20.specs.Code.{Program, no_operand, program_of}
use Rattle.ec20.specs.Devices.{Device, ec20, kind_m, kind_d}
use Rattle.ec20.specs.Memory.{Memory}
use Rattle.ec20.specs.Plant.{Plant, units_in}
use Rattle.ec20.specs.Rung.{keeps}
use Rattle.ec20.specs.Scan.{Scan, start_state}
use Rattle.ec20.specs.Step.{World}
use Rattle.bound.specs.Safe.{Safe}
use Rattle.bound.proofs.Theorem.{each-safe}
use Rattle.refusals.specs.Rung.{rung_at}
use Rattle.refusals.proofs.Keeps.{formed}
use Rattle.refusals.proofs.Refused.{not-refused}
use Rattle.refusals.proofs.Rung.{line-5}
use Rattle.demands.specs.Lines.{Not9}
use Rattle.demands.specs.Named.{Filled, OneWord, Named}
use Rattle.demands.specs.Steps.{after_steps, scan_after, Counted}
use Rattle.demands.specs.Total.{Sound}
use Rattle.demands.proofs.Counted.{same-world}
use Rattle.demands.proofs.Going.{Going, in_order, powered, step-going}
use Rattle.demands.proofs.Lengths.{after-sizes}
use Rattle.demands.proofs.Lines.{fits_all}
use Rattle.demands.proofs.Named.{code-named}
use Rattle.demands.proofs.Power.{fresh-follows}

module _ (v : Device) (f : List ℕ) (n w : ℕ) (ok : check_for v f ≡ Accepted n w) where
  abbrev pub p : Program
  p = program_of f

  -- each record keeps the rung rule
  kept : (k : ℕ) → k < p.count → keeps (p.code k) (rung_at p k) ≡ true
  unfolding program_of
  kept k h = go (keeps (p.code k) (rung_at p k)) refl
    where
      go : (t : Bool) → keeps (p.code k) (rung_at p k) ≡ t → t ≡ true
      go true e = refl
      go false e = absurd (((not-refused v f n w).0 ok).4 k h (line-5 p (formed f) k e))

  module _ (u : Units) (c : Memory) where
    abbrev pub after : ℕ → World
    after j = after_steps v p u c j

    -- the scan has not ended after i steps, for any i below j
    abbrev pub Runs : ℕ → Type 0
    Runs j = (i : ℕ) → i < j → (after i).st.ended ≡ 0

    safe : (j : ℕ) → Runs j → (after j).st.ended ≡ 0 → Safe p (after j)
    safe j h z =
        let q = same-world v p u c j h z in
        elim (each-safe v f n w ok u c j) [
          | inl x ↦ let y : (after j).st.ended ≡ 1 = subst (λ (x : World). x.st.ended ≡ 1) q x.ended in absurd (omega (arith, y, z))
          | inr x ↦ subst (Safe p) q x
        ]

    going : (j : ℕ) → Runs j → (after j).st.ended ≡ 0 → Going p kept (after j)
    unfolding after_steps rung_at
    going zero h z = record {
      stand = in_order (fresh-follows start_state (record { flow = refl; action = refl; blocks = refl; branches = refl }));
      backs = λ i l. absurd (omega (arith, l));
    }
    going (suc j) h z =
        let before : Runs j = λ i l. h i (omega arith) in
        let now : (after j).st.ended ≡ 0 = h j (omega arith) in
        step-going p kept (after j) (safe j before now) (going j before now) u z

  module _ (e : ℕ) (q : Plant) (fits : Not9 v e q) where
    abbrev pub upon : ℕ → World
    upon j = scan_after v p e q j

    named : Filled v → (j : ℕ) → Named (upon j).mem (p.code (upon j).st.pc)
    named full j = code-named v full (upon j).mem (after-sizes v p e q fits j) f n w ok (upon j).st.pc

    pub sound : (j : ℕ) → ((i : ℕ) → i < j → (upon i).st.ended ≡ 0) → (upon j).st.ended ≡ 0 → Sound v p (upon j)
    sound j h z =
        let u = units_in e q.rest in
        let s = safe u q.mem j h z in
        record { safe = s; powered = powered p kept (upon j).st s.inside (going u q.mem j h z).stand; named = λ full. named full j }

    -- TOTAL: so it is before each step that a scan makes
    pub each-sound : (b : ℕ) (s : Scan) (t : Counted v p e b q s) (j : ℕ) → j < t.steps → Sound v p (upon j)
    each-sound b s t j l = sound j (λ i k. t.before i (omega arith)) (t.before j l)

-- the EC20's bits fill their bytes
pub filled : Filled ec20
filled = record { x = refl; y = refl; m = refl; sm = refl; t = refl; flags = omega arith }

-- ---- and it is not for nothing: LD SM0, MPS, LD M0, ANB, OUT Y0, MPP, OUT Y1, LD SM0, CJ 1, LD M1, LBL 1, END

abbrev sample : List ℕ
sample =
    file (
    r1 1 (SM 0)
    ∷ r0 9
    ∷ r1 1 (M 0)
    ∷ r0 7
    ∷ r1 12 (Y 0)
    ∷ r0 11
    ∷ r1 12 (Y 1)
    ∷ r1 1 (SM 0)
    ∷ r1 21 (L 1)
    ∷ r1 1 (M 1)
    ∷ r1 22 (L 1)
    ∷ r0 23
    ∷ [])

sample-ok : check_for ec20 sample ≡ Accepted 12 12
unfolding computing
sample-ok = refl

fits : Not9 ec20 0 (still blank)
unfolding computing
fits = fits_all ec20 0 (still blank) refl

-- three steps made
three : (i : ℕ) → i < 3 → (scan_after ec20 (program_of sample) 0 (still blank) i).st.ended ≡ 0
unfolding computing after_steps
three zero l = refl
three (suc zero) l = refl
three (suc (suc zero)) l = refl
three (suc (suc (suc i))) l = absurd (omega arith)

at-ANB : (scan_after ec20 (program_of sample) 0 (still blank) 3).st.ended ≡ 0
unfolding computing after_steps
at-ANB = refl

-- ANB is due: flow is present, and in record order there is an entry on each stack
pub ANB-sound : Sound ec20 (program_of sample) (scan_after ec20 (program_of sample) 0 (still blank) 3)
ANB-sound = sound ec20 sample 12 12 sample-ok 0 (still blank) fits 3 three at-ANB

pub one_entry : ((rung_at (program_of sample) 3).blocks ≡ 1) × ((rung_at (program_of sample) 3).branches ≡ 1)
unfolding computing rung_at
one_entry = (refl, refl)

-- CJ goes to the LBL: after nine steps record 10 is due, with flow absent, though in record order flow is present there
pub at-LBL : ((scan_after ec20 (program_of sample) 0 (still blank) 9).st.pc ≡ 10) × ((scan_after ec20 (program_of sample) 0 (still blank) 9).st.flow ≡ 0)
    × ((rung_at (program_of sample) 10).present ≡ true)
unfolding computing after_steps rung_at
at-LBL = (refl, refl, refl)

-- ---- LD SM0, MOV D7999 to the group of 16 bits from M1984 on, END: the last word is read, the last bits are written

abbrev last : List ℕ
last = alone (r2 32 (D 7999) (KM 4 1984))

last_ok : check_for ec20 last ≡ Accepted 3 3
unfolding computing
last_ok = refl

-- D7999, and 16 bits from M1984 on
abbrev word : Operand
word = record { kind = kind_d; group = 0; value = 7999 }

abbrev group : Operand
group = record { kind = kind_m; group = 4; value = 1984 }

last_code : (program_of last).code 1 ≡ Word 32 word no_operand group
unfolding computing
last_code = refl

abbrev now : Memory
now = (scan_after ec20 (program_of last) 0 (still blank) 1).mem

pub last-named : OneWord 32 now word no_operand group
last-named = subst (Named now) last_code (code-named ec20 filled now (after-sizes ec20 (program_of last) 0 (still blank) fits 1) last 3 3 last_ok 1)
