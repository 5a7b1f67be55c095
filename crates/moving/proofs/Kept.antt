-- "A word not marked written is changed by no scan."
use Prim.Native.Nat.{ℕ, ◌<◌}
use mathlib.Core.Bool.{false}
use mathlib.Core.List.{List, [], ◌∷◌, map}
use mathlib.Core.Path.{◌≡◌, refl, ap, ap₂, ◌∙◌}
use native.Mathlib.Omega.{arith}
use lib.Dec.{ltb}
use lib.IntN.{ℤ}
use borrow.Author.Tests.{ltb-true}
use Rattle.std.specs.Prelude.{Err, Ok}
use Rattle.ec20.specs.declared.Units.{Units}
use Rattle.ec20.specs.declared.Instr.{Instr}
use Rattle.ec20.specs.Verdict.{Verdict}
use Rattle.ec20.specs.Devices.{Device}
use Rattle.ec20.specs.File.{Records, records_of}
use Rattle.ec20.specs.Code.{Program, code_of, program_of}
use Rattle.ec20.specs.Check.{check_for}
use Rattle.ec20.specs.Registers.{word_at}
use Rattle.ec20.specs.Memory.{Memory}
use Rattle.ec20.specs.Step.{World, exec_of}
use Rattle.ec20.specs.Plant.{Plant, units_in}
use Rattle.ec20.specs.Scan.{Scan, run_scan, timed_scan, fitting, scan_if, scan_for}
use Rattle.ec20.specs.UseMap.{record_has, some_record, marked_written}
use Rattle.ec20.proofs.Some.{none-at}
use Rattle.ec20.proofs.Tests.{picked}
use Rattle.moving.specs.Series.{Input, plant_with_x, scan_with, series}
use Rattle.moving.proofs.Keeps.{exec_keeps, scan-keeps}
use Rattle.moving.proofs.Spared.{Spared, spared-keeps}
use Rattle.moving.proofs.Targets.{Marks, record-spares}

module _ (v : Device) (i : ℕ) where
  -- an instruction that does not write word i leaves it as it was
  pub exec_kept : (p : Program) (u : Units) (c : Instr) (w : World) → Spared i c → word_at (exec_of p u c w).mem.d i ≡ word_at w.mem.d i
  exec_kept p u c w s =
      exec_keeps (λ (l : List ℤ). word_at l i ≡ word_at w.mem.d i) p u c w (spared-keeps i (word_at w.mem.d i) c s) refl

  -- so does a run of a program of which no instruction writes it
  pub run-kept : (p : Program) → ((k : ℕ) → Spared i (p.code k)) → (u : Units) (budget : ℕ) (c : Memory)
      → word_at (run_scan v p u budget c).mem.d i ≡ word_at c.d i
  run-kept p spared u budget c =
      scan-keeps (λ (l : List ℤ). word_at l i ≡ word_at c.d i) p u (λ k. spared-keeps i (word_at c.d i) (p.code k) (spared k)) v budget c refl

  -- no instruction of the program writes a word that is not marked
  code-spares : (rs : Records) → marked_written rs i ≡ false → (k : ℕ) → Spared i (code_of rs k)
  unfolding marked_written some_record code_of
  code-spares rs e k =
      picked (Spared i) (ltb k rs.count) _ _
      (λ q.
      let l : k < rs.count = ltb-true _ _ q in
      record-spares i (rs.at k) (none-at (λ j. record_has (Marks i) (rs.at j)) 0 rs.count e k (omega arith) (omega arith)))
      (λ _. tt)

  if-keeps : (a : Verdict) (p : Program) → ((k : ℕ) → Spared i (p.code k)) → (e budget : ℕ) (q : Plant)
      → word_at (scan_if v a p e budget q).plant.mem.d i ≡ word_at q.mem.d i
  unfolding timed_scan
  if-keeps (Ok a) p spared e budget q =
      picked (λ (s : Scan). word_at s.plant.mem.d i ≡ word_at q.mem.d i) (fitting v e q) _ _
      (λ _. run-kept p spared (units_in e q.rest) budget q.mem)
      (λ _. refl)
  if-keeps (Err r) p spared e budget q = refl

  -- KEPT: a word that no record marks written is after a scan what it was, for every device, file, accepted or not, elapsed time, budget and memory
  pub kept : (f : List ℕ) → marked_written (records_of f) i ≡ false → (e budget : ℕ) (q : Plant)
      → word_at (scan_for v f e budget q).plant.mem.d i ≡ word_at q.mem.d i
  unfolding scan_for program_of
  kept f h e budget q = if-keeps (check_for v f) (program_of f) (code-spares (records_of f) h) e budget q

  -- and after each scan of a series what it was before the first
  pub series-kept : (f : List ℕ) → marked_written (records_of f) i ≡ false → (q : Plant) (is : List Input)
      → map (λ (s : Scan). word_at s.plant.mem.d i) (series v f q is) ≡ map (λ (_ : Input). word_at q.mem.d i) is
  unfolding series
  series-kept f h q [] = refl
  series-kept f h q (j ∷ rest) =
      let s = scan_with v f q j in
      let e : word_at s.plant.mem.d i ≡ word_at q.mem.d i = kept f h j.elapsed j.budget (plant_with_x q j.x) in
      ap₂ ◌∷◌ e (series-kept f h s.plant rest ∙ ap (λ (z : ℤ). map (λ (_ : Input). z) rest) e)
