-- 3: what the check allows of a record's operands, and what the table says of them.
use mathlib.Core.Bool.{Bool, true, false, ◌&&◌}
use mathlib.Core.Path.{◌≡◌, refl, sym, ◌∙◌}
use Rattle.ec20.specs.declared.Operand.{Operand}
use Rattle.ec20.specs.declared.Place.{Place}
use Rattle.ec20.specs.declared.Rec.{Rec}
use Rattle.ec20.specs.Devices.{Device}
use Rattle.ec20.specs.Operands.{allowed, operands_ok}
use Rattle.ec20.specs.Table.{row_of}
use Rattle.ec20.proofs.Tests.{each, differ}
use Rattle.refusals.specs.Admits.{Admits}
use Rattle.refusals.specs.Records.{OperandAt, first, second, third, Line3, wrong}
use Rattle.refusals.proofs.Admits.{admitted, admits}

module _ (v : Device) (r : Rec) where
  abbrev One : Bool
  One = allowed v (row_of r.number).first r.first

  abbrev Two : Bool
  Two = allowed v (row_of r.number).second r.second

  abbrev Three : Bool
  Three = allowed v (row_of r.number).third r.third

  pub all-allowed : operands_ok v (row_of r.number) r ≡ true → {p : Place} {o : Operand} → OperandAt r p o → allowed v p o ≡ true
  unfolding operands_ok
  all-allowed e first = (each One Two Three e).0
  all-allowed e second = (each One Two Three e).1
  all-allowed e third = (each One Two Three e).2

  one-not : (a b c : Bool) → (a && b && c) ≡ false → (a ≡ false → Line3 v r) → (b ≡ false → Line3 v r) → (c ≡ false → Line3 v r) → Line3 v r
  one-not false b c e f g h = f refl
  one-not true false c e f g h = g refl
  one-not true true c e f g h = h e

  not-admitted : {p : Place} {o : Operand} → allowed v p o ≡ false → Admits v p o → ⊥
  not-admitted {o = o} e z = differ (sym (admitted v o z) ∙ e)

  -- the line holds of a record exactly if an operand is not allowed
  pub line-3 : operands_ok v (row_of r.number) r ≡ false → Line3 v r
  unfolding operands_ok
  line-3 e =
      one-not One Two Three e (λ q. wrong first (not-admitted q)) (λ q. wrong second (not-admitted q)) (λ q. wrong third (not-admitted q))

  pub not-line-3 : operands_ok v (row_of r.number) r ≡ true → Line3 v r → ⊥
  not-line-3 e (wrong x f) = f ((admits v x).0 (all-allowed e x))
