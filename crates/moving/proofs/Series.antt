-- THE MOVE, for a series of scans.
use Prim.Native.Nat.{ℕ}
use mathlib.Core.List.{List, [], ◌∷◌, map}
use mathlib.Core.Path.{◌≡◌, refl, ap, ◌∙◌}
use Rattle.ec20.specs.Code.{program_of}
use Rattle.ec20.specs.Check.{check_for}
use Rattle.ec20.specs.Devices.{Device}
use Rattle.ec20.specs.Plant.{Plant}
use Rattle.ec20.specs.Scan.{Scan}
use Rattle.moving.specs.Rename.{Swap, rename_program, ex_plant, ex_scan, Whole}
use Rattle.moving.specs.Series.{Input, plant_with_x, scan_with, series}
use Rattle.moving.proofs.Scan.{scan-sim}

-- SERIES: of two files as in SCAN, a series of the second from the exchanged memory on gives, scan for scan, what a series of the first gives
-- from the memory on, with each memory exchanged: for every memory, leftovers and list of inputs, those included that are refused.
module _ (σ : ℕ → ℕ) (v : Device) (h : Swap σ v.words) (f g : List ℕ) (check : check_for v g ≡ check_for v f)
    (program : program_of g ≡ rename_program σ (program_of f)) (whole : (k : ℕ) → Whole σ ((program_of f).code k)) where
  with-sim : (q : Plant) (i : Input) → scan_with v g (ex_plant σ q) i ≡ ex_scan σ (scan_with v f q i)
  with-sim q i = scan-sim σ v h f g check program whole i.elapsed i.budget (plant_with_x q i.x)

  pub series-sim : (q : Plant) (is : List Input) → series v g (ex_plant σ q) is ≡ map (ex_scan σ) (series v f q is)
  unfolding series
  series-sim q [] = refl
  series-sim q (i ∷ rest) =
      ap (λ (s : Scan). s ∷ series v g s.plant rest) (with-sim q i) ∙ ap (◌∷◌ (ex_scan σ (scan_with v f q i))) (series-sim (scan_with v f q i).plant rest)
