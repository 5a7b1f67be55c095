-- An operand of an accepted record, when the mover has taken a place: with its number renamed it is the moved one, is allowed as before and
-- meets WORK no more than before.
use Prim.Native.Nat.{ℕ, ◌+◌, ◌-◌, ◌≤◌}
use mathlib.Core.Bool.{Bool, true, false, ◌&&◌}
use mathlib.Core.Logic.{inl, inr}
use mathlib.Core.Path.{◌≡◌, refl}
use native.Mathlib.Omega.{arith}
use Rattle.ec20.specs.declared.Operand.{Operand}
use Rattle.ec20.specs.declared.Place.{Place}
use Rattle.ec20.specs.Devices.{Device, meets_work}
use Rattle.ec20.specs.Exchange.{swapped}
use Rattle.ec20.specs.Move.{Block, block, partly, touches, moved_number}
use Rattle.ec20.specs.Operands.{in_d, start_of, extent_of, allowed, in_work}
use Rattle.ec20.specs.Roles.{is_written}
use Rattle.moving.specs.Rename.{rename_operand, Along}
use Rattle.blocks.specs.Apart.{Apart}
use Rattle.blocks.proofs.Swapped.{Clear, clear, not-meets, swap-block, swap-out}
use Rattle.moved.proofs.Along.{Fair, fair, goes-along, moved-swapped}
use Rattle.moved.proofs.Bytes.{moved_operand}
use Rattle.ec20.proofs.InD.{is_word, extent-in, other-number, not-in-D}
use Rattle.ec20.proofs.Tests.{is_false}
use Rattle.moving.proofs.Operand.{in-or-not, extent-place, rename-D, rename-other, rename-in, rename-start, rename-extent}

-- an operand o at the place p that the check allows, that is not split and keeps clear of the place at q
pub record Fit (v : Device) (b : Block) (q : ℕ) (p : Place) (o : Operand) : Type 0 where
  pub allows : allowed v p o ≡ true
  pub off_work : in_work v p o ≡ false
  pub unsplit : partly b p o ≡ false
  pub unused : touches (block q b.length) p o ≡ false
  pub some : in_d o ≡ true → 1 ≤ extent_of p o

moved_other : (b : Block) (q : ℕ) (o : Operand) → in_d o ≡ false → moved_number b q o ≡ o.value
unfolding moved_number
moved_other b q o k = rw k

-- what is inside the place keeps clear of WORK, as the place does
in_place : (v : Device) (q n a e : ℕ) → meets_work v q n ≡ false → q ≤ a → a + e ≤ q + n → meets_work v a e ≡ false
unfolding meets_work
in_place v q n a e m l h =
    not-meets a e v.work (v.words - v.work)
    (elim (clear q n v.work (v.words - v.work) m) [ inl g ↦ inl (omega arith) | inr g ↦ inr (omega arith) ])

module _ {v : Device} {b : Block} {q : ℕ} {p : Place} {o : Operand} (two : Apart v b q) (fit : Fit v b q p o) where
  abbrev σ : ℕ → ℕ
  σ = swapped b q

  -- ---- in D

  module _ (k : in_d o ≡ true) where
    word : 1 ≤ extent_of p o
    word = fit.some k

    is-fair : Fair b q (start_of o) (extent_of p o)
    is-fair = fair b q p o k fit.unsplit fit.unused

    -- the new extent is in the place; or it is the old one, which is clear of block and place
    pub extent-goes : (P : ℕ → Type 0) → ((a : ℕ) → q ≤ a → a + extent_of p o ≤ q + b.length → P a)
        → (Clear (start_of o) (extent_of p o) b.start b.length → Clear (start_of o) (extent_of p o) q b.length → P (start_of o))
        → P (σ (start_of o))
    extent-goes P f g =
        elim is-fair [
          | inl h ↦
              rw (swap-block v b q two (start_of o) h.0 (omega (arith, word, h.1)))
              (f (start_of o - b.start + q) (omega arith) (omega (arith, h.0, h.1)))
          | inr h ↦ rw (swap-out v b q two (start_of o) (extent_of p o) (start_of o) h.0 h.1 (omega arith) (omega (arith, word))) (g h.0 h.1)
        ]

    new_in : σ (start_of o) + extent_of p o ≤ v.words
    new_in = extent-goes (λ a. a + extent_of p o ≤ v.words) (λ a l h. omega (arith, two.place_in)) (λ _ _. extent-in v p o k fit.allows)

    new-off : meets_work v q b.length ≡ false → meets_work v (start_of o) (extent_of p o) ≡ false → meets_work v (σ (start_of o)) (extent_of p o) ≡ false
    new-off w m = extent-goes (λ a. meets_work v a (extent_of p o) ≡ false) (λ a l h. in_place v q b.length a (extent_of p o) w l h) (λ _ _. m)

    work-D : (t : Bool) → meets_work v q b.length ≡ false → (t && true && meets_work v (start_of o) (extent_of p o)) ≡ false
        → (t && true && meets_work v (σ (start_of o)) (extent_of p o)) ≡ false
    work-D true w m = new-off w m
    work-D false w m = refl

  -- ---- in D or not

  -- the mover's number is the renamed one
  pub moved-is : moved_operand b q o ≡ rename_operand σ o
  moved-is =
      in-or-not o
      (λ k. rw (rename-D σ o k, moved-swapped v b q two (extent_of p o) o (word k) k (is-fair k)))
      (λ k. rw (rename-other σ o k, moved_other b q o k))

  pub allows-new : allowed v p (rename_operand σ o) ≡ true
  allows-new =
      in-or-not o
      (λ k. rw (rename-D σ o k) (other-number v p o k fit.allows (σ (start_of o)) (new_in k)))
      (λ k. rw (rename-other σ o k) fit.allows)

  pub off-work-new : meets_work v q b.length ≡ false → in_work v p (rename_operand σ o) ≡ false
  unfolding in_work
  off-work-new w =
      in-or-not o
      (λ k. rw (rename-in σ o, k, rename-start σ o k, rename-extent σ o p) (work-D k (is_written p) w (rw k at fit.off_work)))
      (λ k. rw (rename-other σ o k) fit.off_work)

  pub along : (e : ℕ) → e ≤ p.extent → Along σ e o
  unfolding Along
  along e h k j l =
      let x : extent_of p o ≡ p.extent = extent-place p o in
      goes-along v b q two (start_of o) (extent_of p o) j (omega arith) (is-fair k)

  -- at a place that is not for words nothing is renamed
  pub bare-same : is_word p ≡ false → rename_operand σ o ≡ o
  bare-same n = rename-other σ o (is_false (in_d o) (not-in-D v p o n fit.allows))
