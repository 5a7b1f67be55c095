-- An extent that is whole in the block, or clear of block and place: the exchange is the move by the distance there, and the extent's words
-- go along with the first.
use Prim.Native.Nat.{ℕ, ◌+◌, ◌≤◌, ◌<◌}
use mathlib.Core.Bool.{Bool, true, false, not, ◌&&◌}
use mathlib.Core.Logic.{◌⊎◌, inl, inr}
use mathlib.Core.Path.{◌≡◌, refl, sym}
use native.Mathlib.Omega.{arith}
use borrow.Author.Tests.{leb-true, not-false}
use lib.Dec.{leb}
use Rattle.ec20.proofs.Tests.{both}
use Rattle.ec20.proofs.Ranges.{within-yes}
use Rattle.ec20.specs.declared.Operand.{Operand}
use Rattle.ec20.specs.declared.Place.{Place}
use Rattle.ec20.specs.Devices.{Device, meets, inside}
use Rattle.ec20.specs.Exchange.{swapped}
use Rattle.ec20.specs.Move.{Block, block, touches, partly, moved_number}
use Rattle.ec20.specs.Operands.{in_d, start_of, extent_of}
use Rattle.blocks.specs.Apart.{Apart}
use Rattle.blocks.proofs.Swapped.{Clear, clear, within-clear, swap-block, swap-out}

-- the e words from a on are all in the block, or clear of block and place
abbrev pub Fair : Block → ℕ → ℕ → ℕ → Type 0
Fair b q a e = ((b.start ≤ a) × (a + e ≤ b.start + b.length)) ⊎ (Clear a e b.start b.length × Clear a e q b.length)

-- an extent in D that is not partly in the block and does not meet the place
pub fair : (b : Block) (q : ℕ) (p : Place) (o : Operand) → in_d o ≡ true → partly b p o ≡ false → touches (block q b.length) p o ≡ false
    → Fair b q (start_of o) (extent_of p o)
unfolding partly touches inside
fair b q p o k x y =
    go (meets (start_of o) (extent_of p o) b.start b.length) refl (rw k at x) (clear _ _ _ _ (rw k at y))
  where
    go : (t : Bool) → meets (start_of o) (extent_of p o) b.start b.length ≡ t
        → (t && not (leb b.start (start_of o) && leb (start_of o + extent_of p o) (b.start + b.length))) ≡ false
        → Clear (start_of o) (extent_of p o) q b.length
        → Fair b q (start_of o) (extent_of p o)
    go true f g c =
        let h = both (leb b.start (start_of o)) (leb (start_of o + extent_of p o) (b.start + b.length)) (not-false _ g) in
        inl (leb-true _ _ h.0, leb-true _ _ h.1)
    go false f g c = inr (clear _ _ _ _ f, c)

module _ (v : Device) (b : Block) (q : ℕ) (two : Apart v b q) where
  -- its words go along with the first
  pub goes-along : (a e j : ℕ) → j < e → Fair b q a e → swapped b q (a + j) ≡ swapped b q a + j
  goes-along a e j z (inl h) =
      rw (swap-block v b q two a h.0 (omega arith), swap-block v b q two (a + j) (omega arith) (omega arith)) (omega arith)
  goes-along a e j z (inr h) =
      rw (swap-out v b q two a e a h.0 h.1 (omega arith) (omega arith), swap-out v b q two a e (a + j) h.0 h.1 (omega arith) (omega arith))

  -- "each D number in the block raised or lowered by the distance": of an operand in D with such an extent
  pub moved-swapped : (e : ℕ) (o : Operand) → 1 ≤ e → in_d o ≡ true → Fair b q (start_of o) e → moved_number b q o ≡ swapped b q (start_of o)
  unfolding moved_number start_of
  moved-swapped e o z k (inl h) =
      rw (k, within-yes b.start b.length (start_of o) h.0 (omega arith)) (sym (swap-block v b q two (start_of o) h.0 (omega arith)))
  moved-swapped e o z k (inr h) =
      rw (k, within-clear (start_of o) e b.start b.length (start_of o) h.0 (omega arith) (omega arith))
      (sym (swap-out v b q two (start_of o) e (start_of o) h.0 h.1 (omega arith) (omega arith)))
