-- A scan over a memory file, from what its calls give. Assumes nothing.
use Prim.Native.Nat.{ℕ}
use mathlib.Core.Bool.{Bool, true, false}
use mathlib.Core.List.{List, []}
use mathlib.Core.Path.{◌≡◌, refl, sym, ap, ◌∙◌}
use native.Mathlib.Omega.{arith}
use lib.Dec.{eqb}
use lib.IntN.{ℤ}
use lib.ListN.{length, take}
use lib.Seq.{take_all}
use Rattle.std.specs.Prelude.{Err, Ok}
use Rattle.ec20.proofs.Laws.{refused_keeps}
use Rattle.ec20.specs.Basics.{pick}
use Rattle.ec20.specs.Check.{check_of}
use Rattle.ec20.specs.Code.{Program, program_of}
use Rattle.ec20.specs.Devices.{ec20}
use Rattle.ec20.specs.Memory.{memory, sized}
use Rattle.ec20.specs.Plant.{Plant, plant}
use Rattle.ec20.specs.Scan.{Scan, scan, fitting, scan_if, scan_for, scan_of}
use Rattle.ec20.specs.Scanned.{Scanned}
use Rattle.ec20.specs.Scanned.{Refused}
use Rattle.ec20.specs.Verdict.{Verdict}
use Rattle.image.specs.Image.{plant_of, image_of, Sizes}
use Rattle.memories.proofs.After.{tables_after, bytes_after, no_byte}
use Rattle.turns.proofs.Inputs.{with_inputs}
use Rattle.memory_scans.specs.Scans.{unsized, scan_in}

-- a scan over tables of which one has a wrong size
wrong_size : (v : Verdict) (p : Program) (e n : ℕ) (q : Plant) → sized ec20 q.mem ≡ false → scan_if ec20 v p e n q ≡ scan (unsized v) q
unfolding unsized fitting
wrong_size (Ok a) p e n q h = rw h refl
wrong_size (Err r) p e n q h = refl

module _ (f : List ℕ) (e n : ℕ) where
  scan-wrong : (q : Plant) → sized ec20 q.mem ≡ false → scan_of f e n q ≡ scan (unsized (check_of f)) q
  unfolding scan_of scan_for check_of
  scan-wrong q h = wrong_size (check_of f) (program_of f) e n q h

  no-x : (q : Plant) → sized ec20 (with_inputs [] q).mem ≡ false
  unfolding sized
  no-x q = refl

  -- X is lent whole, or no entry of it
  by_size : (q : Plant) {y m sm t rest : List ℕ} {d tv : List ℤ} {r : Scanned} (s : Bool) (k : ℕ) → k ≡ pick s 32 0 → length q.mem.x ≡ 32
      → scan r (plant (memory (take k q.mem.x) y m sm t d tv) rest) ≡ scan_of f e n (with_inputs (take k q.mem.x) q)
      → scan r (plant (memory q.mem.x y m sm t d tv) rest) ≡ pick s (scan_of f e n q) (scan (unsized (check_of f)) q)
  by_size q true k g l h = rw (ap (λ (j : ℕ). take j q.mem.x) g ∙ take_all 32 q.mem.x (omega arith)) at h
  by_size q false k g l h =
      ap (λ (z : Scan). scan z.answer (with_inputs q.mem.x z.plant))
      ((rw (ap (λ (j : ℕ). take j q.mem.x) g) at h) ∙ scan-wrong (with_inputs [] q) (no-x q))

  keeps : (s : Bool) (q : Plant) (m k : ℕ) → (pick s (scan_of f e n q) (scan (unsized (check_of f)) q)).answer ≡ Refused m k
      → (pick s (scan_of f e n q) (scan (unsized (check_of f)) q)).plant ≡ q
  keeps true q m k h = refused_keeps f e n q (rw h tt)
  keeps false q m k h = refl

  pub scan-keeps : (size : ℕ) (q : Plant) (m k : ℕ) → (scan_in f size e n q).answer ≡ Refused m k → (scan_in f size e n q).plant ≡ q
  unfolding scan_in
  scan-keeps size q m k h = keeps (eqb size 16892) q m k h

-- b and b': the bytes before and after it. Tables and leftovers are those of b, the scan goes over them, with X whole or none of it, and they are joined
-- to b'.
module _ {b b' : List ℕ} (f : List ℕ) (size e n : ℕ) {k : ℕ} {x y y' m m' sm sm' t t' rest rest' : List ℕ} {d d' tv tv' : List ℤ} {r : Scanned}
    (sizes : Sizes (plant (memory x y m sm t d tv) rest))
    (split : plant (memory x y m sm t d tv) rest ≡ plant_of b)
    (back : image_of (plant_of b) ≡ b)
    (entries : k ≡ pick (eqb size 16892) 32 0)
    (scanned : scan r (plant (memory (take k x) y' m' sm' t' d' tv') rest') ≡ scan_of f e n (plant (memory (take k x) y m sm t d tv) rest))
    (joined : b' ≡ image_of (plant (memory x y' m' sm' t' d' tv') rest'))
    (again : plant_of b' ≡ plant (memory x y' m' sm' t' d' tv') rest') where
  all : scan r (plant (memory x y' m' sm' t' d' tv') rest') ≡ scan_in f size e n (plant_of b)
  unfolding scan_in
  all = by_size f e n (plant (memory x y m sm t d tv) rest) (eqb size 16892) k entries sizes.x scanned ∙ ap (scan_in f size e n) split

  pub scan-after : (r ≡ (scan_in f size e n (plant_of b)).answer)
      × ((plant_of b' ≡ (scan_in f size e n (plant_of b)).plant)
      × ((b' ≡ image_of (scan_in f size e n (plant_of b)).plant)
      × ((m k : ℕ) → r ≡ Refused m k → b' ≡ b)))
  scan-after =
      let answer = ap (λ (z : Scan). z.answer) all in
      let same = ap (λ (z : Scan). z.plant) all in
      (answer, (tables_after joined again same, (bytes_after joined again same, λ m k h. no_byte joined again same back (scan-keeps f e n size (plant_of b) m k (sym answer ∙ h)))))
