-- THE MOVE, for one scan: the renamed program's file on the exchanged table is answered as the file on the table.
use Prim.Native.Nat.{ℕ, ◌/◌}
use mathlib.Core.Bool.{true, ◌&&◌}
use mathlib.Core.List.{List}
use mathlib.Core.Path.{◌≡◌, refl, sym, ap, subst, ◌∙◌}
use lib.Dec.{leb, eqb}
use lib.ListN.{length}
use borrow.Author.Tests.{eqb-true}
use Rattle.std.specs.Prelude.{Err, Ok}
use Rattle.ec20.specs.Verdict.{Verdict}
use Rattle.ec20.specs.Devices.{Device}
use Rattle.ec20.specs.Code.{Program, program_of}
use Rattle.ec20.specs.Check.{check_for}
use Rattle.ec20.specs.Memory.{sized}
use Rattle.ec20.specs.Plant.{Plant, leftovers_fit, units_in, rest_after}
use Rattle.ec20.specs.Scan.{leaving, timed_scan, fitting, scan_if, scan_for}
use Rattle.ec20.proofs.Tests.{both, each}
use Rattle.moving.specs.Rename.{Swap, rename_program, ex_plant, ex_scan, Whole}
use Rattle.ec20.proofs.Exchanges.{exchange-length}
use Rattle.moving.proofs.Operand.{pick-sim}
use Rattle.moving.proofs.Run.{run-scan-sim}

-- the exchange changes no size
pub fitting-same : (σ : ℕ → ℕ) (v : Device) (e : ℕ) (q : Plant) → fitting v e (ex_plant σ q) ≡ fitting v e q
unfolding fitting sized
fitting-same σ v e q = rw (exchange-length σ q.mem.d)

-- what is not refused by 9 has as many D words as the device
pub fitting-words : (v : Device) (e : ℕ) (q : Plant) → fitting v e q ≡ true → length q.mem.d ≡ v.words
unfolding fitting sized
fitting-words v e q h =
    let c = q.mem in
    let before =
    eqb (length c.x) (v.x / 8) && eqb (length c.y) (v.y / 8) && eqb (length c.m) (v.m / 8) && eqb (length c.sm) (v.sm / 8)
    && eqb (length c.t) (v.t / 8) in
    let words = eqb (length c.d) v.words in
    let all = (each (sized v c) (leftovers_fit q.rest) (leb e 10000) h).0 in
    eqb-true _ _ (both before words (both (before && words) (eqb (length c.tv) v.t) all).0).1

module _ (σ : ℕ → ℕ) (v : Device) (h : Swap σ v.words) where
  timed-sim : (p : Program) → ((k : ℕ) → Whole σ (p.code k)) → (e budget : ℕ) (q : Plant) → Swap σ (length q.mem.d)
      → timed_scan v (rename_program σ p) e budget (ex_plant σ q) ≡ ex_scan σ (timed_scan v p e budget q)
  unfolding timed_scan
  timed-sim p whole e budget q s = ap (leaving (rest_after e q.rest)) (run-scan-sim σ p whole (units_in e q.rest) v budget q.mem s)

  if-sim : (a : Verdict) (p : Program) → ((k : ℕ) → Whole σ (p.code k)) → (e budget : ℕ) (q : Plant)
      → scan_if v a (rename_program σ p) e budget (ex_plant σ q) ≡ ex_scan σ (scan_if v a p e budget q)
  if-sim (Ok a) p whole e budget q =
      rw (fitting-same σ v e q)
      (pick-sim (ex_scan σ) (fitting v e q) _ _ _ _
      (λ t. timed-sim p whole e budget q (subst (Swap σ) (sym (fitting-words v e q t)) h))
      (λ _. refl))
  if-sim (Err r) p whole e budget q = refl

  -- SCAN: two files of which the check says the same, the second's program the first's renamed by a swap of the D numbers that leaves no
  -- extent divided. For every memory, leftovers, elapsed time and budget a scan of the second on the exchanged table answers as a scan of the first
  -- on the table, and leaves the exchanged memory, and the same leftovers. Refused calls are no exception.
  pub scan-sim : (f g : List ℕ) → check_for v g ≡ check_for v f → program_of g ≡ rename_program σ (program_of f) → ((k : ℕ) → Whole σ ((program_of f).code k))
      → (e budget : ℕ) (q : Plant) → scan_for v g e budget (ex_plant σ q) ≡ ex_scan σ (scan_for v f e budget q)
  unfolding scan_for
  scan-sim f g a b whole e budget q =
      ap (λ (r : Verdict). scan_if v r (program_of g) e budget (ex_plant σ q)) a
      ∙ ap (λ (p : Program). scan_if v (check_for v f) p e budget (ex_plant σ q)) b
      ∙ if-sim (check_for v f) (program_of f) whole e budget q
