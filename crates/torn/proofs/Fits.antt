-- A salvage that is done: the file has 2,000 records at most, and fits its output. Assumes nothing.
use Prim.Native.Nat.{ℕ, ◌+◌, ◌*◌, ◌≤◌}
use mathlib.Core.Bool.{Bool, true, false}
use mathlib.Core.List.{List}
use mathlib.Core.Path.{◌≡◌, refl, sym, ap, ◌∙◌}
use native.Mathlib.Omega.{arith}
use lib.Dec.{leb}
use lib.ListN.{length}
use borrow.Author.Tests.{leb-true}
use Rattle.ec20.specs.Basics.{pick}
use Rattle.ec20.specs.Buffer.{sent}
use Rattle.ec20.specs.Devices.{ec20}
use Rattle.torn.specs.Salvage.{records_in, size_for, file_with, rest_of, Salvage, saved, kept_in, salvage_for, salvage_of}
use Rattle.torn.proofs.Parts.{done-parts}
use Rattle.torn.specs.Salvaged.{Salvaged}
use Rattle.torn.specs.Salvaged.{Refused, Done}

-- by the two tests
by_tests : (x y : Bool) (c a q n m r : ℕ) (f b : List ℕ)
    → (pick x (pick y (saved (Done c a q) f) (saved (Refused 16 0) b)) (saved (Refused 1 0) b)).answer ≡ Done n m r
    → (x ≡ true) × (y ≡ true) × (c ≡ n) × (a ≡ m)
by_tests true true c a q n m r f b e = let p = done-parts c a q n m r e in (refl, refl, p.0, p.1)
by_tests true false c a q n m r f b e = let z : ◌≡◌ {A = ℕ} 0 1 = cc in absurd (omega arith)
by_tests false y c a q n m r f b e = let z : ◌≡◌ {A = ℕ} 0 1 = cc in absurd (omega arith)

pub done-fits : (t b b' : List ℕ) (s : Salvaged) (n m r : ℕ) → saved s b' ≡ salvage_of t b → s ≡ Done n m r → (n + m ≤ 2000) × (20 * (n + m) + 8 ≤ length b)
unfolding salvage_of salvage_for
done-fits t b b' s n m r e d =
    let h = by_tests (leb (records_in (kept_in ec20 t)) 2000) (leb (size_for (records_in (kept_in ec20 t))) (length b)) (kept_in ec20 t).count (kept_in ec20 t).added (rest_of t (kept_in ec20 t)) n m r (sent (file_with t (kept_in ec20 t)) b) b (ap (λ (x : Salvage). x.answer) (sym e) ∙ d) in
    let few : records_in (kept_in ec20 t) ≤ 2000 = leb-true _ _ h.0 in
    let room : size_for (records_in (kept_in ec20 t)) ≤ length b = leb-true _ _ h.1 in
    (omega (arith, few, h.2, h.3), omega (arith, room, h.2, h.3))
