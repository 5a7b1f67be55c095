-- A scan by its cases: refused, 9, or the run. Assumes nothing.
use Prim.Native.Nat.{ℕ, ◌+◌, ◌*◌, ◌<◌}
use mathlib.Core.Bool.{Bool, true, false, ◌&&◌}
use mathlib.Core.List.{List}
use mathlib.Core.Path.{◌≡◌, refl, sym, ap, subst, ◌∙◌}
use native.Mathlib.Decide.{dec_lt}
use native.Mathlib.Omega.{arith}
use lib.Dec.{leb}
use lib.ListN.{length}
use Rattle.ec20.proofs.Laws.{no-fault}
use Rattle.ec20.proofs.NoFault.{record-fine}
use Rattle.ec20.proofs.Tests.{both, differ}
use Rattle.ec20.specs.Table.{row_of}
use Rattle.ec20.specs.Judged.{Fine}
use Rattle.ec20.specs.declared.Row.{Row}
use Rattle.instructions.proofs.Rows.{row-past}
use Rattle.records.specs.Ranges.{Held}
use Rattle.step.specs.Ready.{Known}
use Rattle.ec20.specs.Check.{check_of}
use Rattle.ec20.specs.Code.{program_in, program_of}
use Rattle.ec20.specs.Devices.{ec20}
use Rattle.ec20.specs.File.{Records, byte_at, record_from, records_from, records_of}
use Rattle.ec20.specs.Memory.{sized}
use Rattle.ec20.specs.Operands.{is_known, fault_in, first_bad}
use Rattle.ec20.specs.Plant.{Plant, leftovers_fit, units_in, rest_after}
use Rattle.ec20.specs.Scan.{Ran, scan, leaving, run_scan, timed_scan, fitting, scan_for, scan_of}
use Rattle.ec20.specs.declared.Frame.{Frame}
use Rattle.ec20.specs.Scanned.{Refused}
use Rattle.ec20.specs.declared.Units.{Units}
use Rattle.engine.specs.Made.{Ready, Fit, Made}
use Rattle.checker.specs.Accepted.{accepted_of}
use Rattle.checker.proofs.Accepted.{taken, not_taken}
use Rattle.ec20.specs.declared.Refusal.{Refusal}
use Rattle.std.specs.Prelude.{Ok, Err, IfOk}

-- a scan of a file that was made ready, and is refused by the check
pub unfit-scan : (f : List ℕ) (d : Refusal) → Made f (Err d) → (e b : ℕ) (q : Plant) → scan (Err d) q ≡ scan_of f e b q
unfolding scan_of scan_for check_of
unfit-scan f d made e b q = rw made refl

module _ {f : List ℕ} {w : Frame} (made : Fit f w) (e b : ℕ) (q : Plant) where
  -- an accepted one, by sizes, leftovers and elapsed milliseconds
  pub nine : {s l : Bool} → s ≡ sized ec20 q.mem → l ≡ leftovers_fit q.rest → (s && l && leb e 10000) ≡ false → scan (Refused 9 0) q ≡ scan_of f e b q
  unfolding scan_of scan_for check_of fitting
  nine g k h = rw (made.accepted.2, sym g, sym k, h) refl

  -- what is run has the units, and what is left the leftovers, of so many milliseconds
  pub fits : {s l : Bool} {o : Ran} {u : Units} {rest : List ℕ} → s ≡ sized ec20 q.mem → l ≡ leftovers_fit q.rest
      → (s && l && leb e 10000) ≡ true → u ≡ units_in e q.rest → rest ≡ rest_after e q.rest
      → o ≡ run_scan ec20 (program_in (records_from f w.first w.count)) u b q.mem → leaving rest o ≡ scan_of f e b q
  unfolding scan_of scan_for check_of fitting timed_scan
  fits g k h x y o = rw (o, x, y, made.program, made.accepted.2, sym g, sym k, h) refl

-- a row that is known stands in the table
in_table : (n : ℕ) → (row_of n).known ≡ true → n < 56
in_table n e =
    elim (dec_lt n 56) [
      | yes h ↦ h
      | no h ↦ differ (sym e ∙ ap (λ (r : Row). r.known) (sym (row-past n (omega arith))))
    ]

-- records that 2 does not refuse have numbers of the table
records-known : (f : List ℕ) (first count : ℕ) → first_bad ec20 (records_from f first count) ≡ Fine → Known f first count
unfolding is_known record_from
records-known f first count e k h =
    let fine = no-fault (λ j. fault_in ec20 (record_from f (first + 20 * j))) 0 count e k (omega arith) (omega arith) in
    in_table _ (both (row_of (byte_at f (first + 20 * k))).known _ (record-fine ec20 (record_from f (first + 20 * k)) fine).0).0

-- what the check's frame tells is what was made ready
pub made-ready : (f : List ℕ) (p : Ready) → p ≡ accepted_of f → IfOk p (λ w. Held (length f) w.first w.count) → Made f p
unfolding program_of
made-ready f (Err r) e h = sym (not_taken f e)
made-ready f (Ok w) e h =
    let t = taken f e in
    let same : records_from f w.first w.count ≡ records_of f = rw (t.first, t.count) refl in
    record {
      accepted = (t.records, t.steps, t.verdict);
      held = h;
      program = ap program_in same;
      known = records-known f w.first w.count (subst (λ (rs : Records). first_bad ec20 rs ≡ Fine) (sym same) t.fine);
    }
