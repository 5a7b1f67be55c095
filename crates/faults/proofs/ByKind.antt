-- What a source and a target may be, by the operand's kind: one test is left of them all.
use mathlib.Core.Path.{◌≡◌, refl}
use mathlib.Core.Bool.{◌&&◌, ◌||◌, and-false}
use borrow.Author.Tests.{ne_eqb}
use lib.Dec.{eqb}
use lib.IntN.{pos, neg_ℤ}
use Prim.Native.Nat.{◌-◌}
use Rattle.ec20.specs.declared.Operand.{Operand}
use Rattle.ec20.specs.declared.Place.{Place}
use Rattle.ec20.specs.Devices.{ec20}
use Rattle.ec20.specs.Numbers.{half}
use Rattle.ec20.specs.Operands.{constant_in, one_of, group_in, words_in, is_source, is_target}
use Rattle.faults.proofs.Roles.{then-none, only}

module _ (p : Place) (o : Operand) where
  -- of a source
  pub words : o.kind ≡ 7 → words_in ec20 p.extent o ≡ is_source ec20 p o
  unfolding is_source constant_in one_of
  words e = rw (e, and-false (eqb p.width 16)) refl

  pub constant : o.kind ≡ 1 → constant_in (neg_ℤ (pos (half p.width))) (pos (half p.width - 1)) o ≡ is_source ec20 p o
  unfolding is_source one_of words_in then-none
  constant e = rw (e, and-false (eqb p.width 16)) (only 3 _)

  pub timer : o.kind ≡ 6 → (eqb p.width 16 && one_of ec20 6 o) ≡ is_source ec20 p o
  unfolding is_source constant_in words_in then-none
  timer e = rw e (only 1 _)

  pub group : (o.kind ≡ 7 → ⊥) → (o.kind ≡ 1 → ⊥) → (o.kind ≡ 6 → ⊥) → ((eqb o.kind 2 || eqb o.kind 3 || eqb o.kind 4) && group_in ec20 p.width o) ≡ is_source ec20 p o
  unfolding is_source constant_in one_of words_in then-none
  group a b d =
      rw (ne_eqb _ _ a, ne_eqb _ _ b, ne_eqb _ _ d, and-false (eqb p.width 16)) (only 2 _)

  -- of a target
  pub target-words : o.kind ≡ 7 → words_in ec20 p.extent o ≡ is_target ec20 p o
  unfolding is_target
  target-words e = rw e refl

  pub target-group : (o.kind ≡ 7 → ⊥) → ((eqb o.kind 3 || eqb o.kind 4) && group_in ec20 p.width o) ≡ is_target ec20 p o
  unfolding is_target words_in then-none
  target-group a = rw (ne_eqb _ _ a) (only 1 _)
