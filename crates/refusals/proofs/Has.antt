-- One of a record's operands, at its place in the row, passes a test: from the test to the operand, and back. Assumes nothing.
use mathlib.Core.Bool.{Bool, true, false, ◌||◌}
use mathlib.Core.Path.{◌≡◌}
use Rattle.ec20.proofs.InD.{first_word, second_word, third-word}
use Rattle.ec20.proofs.Tests.{neither, three, or_right, one-first, one-second}
use Rattle.ec20.specs.Devices.{Device}
use Rattle.ec20.specs.Operands.{in_d, extent_of, allowed}
use Rattle.ec20.specs.Table.{row_of}
use Rattle.ec20.specs.UseMap.{some_operand, record_has}
use Rattle.ec20.specs.declared.Operand.{Operand}
use Rattle.ec20.specs.declared.Place.{Place}
use Rattle.ec20.specs.declared.Rec.{Rec}
use Prim.Native.Nat.{◌≤◌}
use Rattle.refusals.specs.Records.{OperandAt, first, second, third}

module _ (test : Place → Operand → Bool) (r : Rec) where
  abbrev One : Bool
  One = test (row_of r.number).first r.first

  abbrev Two : Bool
  Two = test (row_of r.number).second r.second

  abbrev Three : Bool
  Three = test (row_of r.number).third r.third

  -- one of them passes
  pub has_one : record_has test r ≡ true → (p : Place) × (o : Operand) × OperandAt r p o × (test p o ≡ true)
  unfolding some_operand
  has_one e = three One Two Three e (λ z. (_, _, first, z)) (λ z. (_, _, second, z)) (λ z. (_, _, third, z))

  -- and one that passes makes it so
  pub one_has : {p : Place} {o : Operand} → OperandAt r p o → test p o ≡ true → record_has test r ≡ true
  unfolding some_operand
  one_has first e = one-first One Two Three e
  one_has second e = one-second One Two Three e
  one_has third e = or_right (One || Two) Three e

  -- none of them passes
  pub has-none : record_has test r ≡ false → {p : Place} {o : Operand} → OperandAt r p o → test p o ≡ false
  unfolding some_operand
  has-none e first = (neither One Two (neither (One || Two) Three e).0).0
  has-none e second = (neither One Two (neither (One || Two) Three e).0).1
  has-none e third = (neither (One || Two) Three e).1

-- an operand in D that is allowed has a word at least
pub some_word : (v : Device) (r : Rec) {p : Place} {o : Operand} → OperandAt r p o → in_d o ≡ true → allowed v p o ≡ true → 1 ≤ extent_of p o
some_word v r first k h = first_word v r.number r.first k h
some_word v r second k h = second_word v r.number r.second k h
some_word v r third k h = third-word v r.number r.third k h
