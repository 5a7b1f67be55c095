-- A judgement by one line of the table, that tells record 0.
use Prim.Native.Nat.{ℕ}
use mathlib.Core.Bool.{Bool, true, false}
use mathlib.Core.Path.{◌≡◌, refl, ap₂}
use Rattle.std.specs.Prelude.{Err}
use Rattle.ec20.specs.Judged.{Judged}
use Rattle.ec20.specs.Judged.{Fine, Fault}
use Rattle.ec20.specs.Basics.{pick}

-- no fault: the line does not hold; a fault: it is m, at record 0, and the line holds
abbrev pub Tells : ℕ → Type 0 → Judged → Type 0
Tells m line Fine = line → ⊥
Tells m line (Err r) = (r.number ≡ m) × (r.at ≡ 0) × line

-- by a test that passes where the line does not hold
pub tells : (t : Bool) (m : ℕ) (line : Type 0) → (t ≡ true → line → ⊥) → (t ≡ false → line) → Tells m line (pick t Fine (Fault m 0))
tells true m _ f g = f refl
tells false m _ f g = (refl, refl, g refl)

-- so the line decides what is told
pub tells-fine : (m : ℕ) (line : Type 0) (x : Judged) → Tells m line x → (line → ⊥) → x ≡ Fine
tells-fine m _ Fine t h = refl
tells-fine m _ (Err r) t h = absurd (h t.2)

pub tells-fault : (m : ℕ) (line : Type 0) (x : Judged) → Tells m line x → line → x ≡ Fault m 0
tells-fault m _ Fine t h = absurd (t h)
tells-fault m _ (Err r) t h = ap₂ Fault t.0 t.1
