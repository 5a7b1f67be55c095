-- An operand moved, or left as it is. Assumes nothing.
use Prim.Native.Nat.{ℕ, ◌+◌, ◌-◌, ◌<◌, ◌≤◌, ◌^◌}
use mathlib.Core.Bool.{Bool, true, false, ◌&&◌}
use mathlib.Core.List.{List}
use mathlib.Core.Path.{◌≡◌, sym, ap, ◌∙◌}
use native.Mathlib.Omega.{arith}
use Rattle.ec20.proofs.Ranges.{is_within}
use Rattle.ec20.proofs.Tests.{both}
use Rattle.ec20.specs.Devices.{within}
use Rattle.ec20.specs.File.{byte_at, u32_at, operand_at}
use Rattle.ec20.specs.Move.{block, moved_number}
use Rattle.ec20.specs.Operands.{in_d, start_of}
use Rattle.ec20.specs.declared.Operand.{Operand}
use Rattle.rewrite.proofs.NumberLaws.{u32-kept}
use Rattle.rewrite.specs.Numbers.{with_u32, Below}

-- of an operand it was asked whether it has words in D, where they begin, and whether that is in the block
module _ (s n q : ℕ) (r : Operand) {d t : Bool} {a : ℕ} (in_D : d ≡ in_d r) (begins : a ≡ start_of r) (h : t ≡ within s n a) where
  -- the number, with which its words begin, is in the block
  pub in_block : (d && t) ≡ true → (s ≤ r.value) × (r.value < s + n)
  unfolding start_of
  in_block g = is_within s n r.value (ap (within s n) (sym begins) ∙ sym h ∙ (both d t g).1)

  -- moved, it is a number of four bytes
  pub moved-below : (d && t) ≡ true → Below s n q → r.value - s + q < 2 ^ 32
  moved-below g w = let k = in_block g in omega (arith, k.0, k.1, w.place)

  module _ (f : List ℕ) (i : ℕ) (e : r ≡ operand_at f i) where
    pub operand-moved : {x : List ℕ} → (d && t) ≡ true → x ≡ with_u32 f (i + 2) (r.value - s + q)
        → x ≡ with_u32 f (i + 2) (moved_number (block s n) q (operand_at f i))
    unfolding moved_number
    operand-moved g k = rw (sym e, sym in_D, sym begins, sym h, g) k

    value_read : r.value ≡ u32_at f (i + 2)
    unfolding operand_at
    value_read = ap (λ (o : Operand). o.value) e

    number-stays : (d && t) ≡ false → moved_number (block s n) q (operand_at f i) ≡ u32_at f (i + 2)
    unfolding moved_number
    number-stays g = rw (sym e, sym in_D, sym begins, sym h, g) value_read

    pub operand-kept : (d && t) ≡ false → ((k : ℕ) → byte_at f k < 256)
        → f ≡ with_u32 f (i + 2) (moved_number (block s n) q (operand_at f i))
    operand-kept g small = sym (ap (with_u32 f (i + 2)) (number-stays g) ∙ u32-kept f (i + 2) small)
