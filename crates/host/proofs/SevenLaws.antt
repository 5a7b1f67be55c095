-- What a host is told of a scan. Assumes nothing.
use Prim.Native.Nat.{ℕ}
use mathlib.Core.List.{List}
use mathlib.Core.Path.{◌≡◌, ap, ◌∙◌}
use Rattle.ec20.specs.Plant.{Plant}
use Rattle.ec20.specs.Scan.{Scan, scan}
use Rattle.ec20.specs.Scanned.{Scanned}
use Rattle.host.specs.Seven.{seven_of}

-- what is left, and the seven numbers of the answer
pub told_of : {r : Scanned} {c : Plant} {s : Scan} {l : List ℕ} → scan r c ≡ s → l ≡ seven_of r → (c ≡ s.plant) × (l ≡ seven_of s.answer)
told_of e f = (ap (λ (x : Scan). x.plant) e, f ∙ ap (λ (x : Scan). seven_of x.answer) e)
