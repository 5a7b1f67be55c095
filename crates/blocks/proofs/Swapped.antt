-- The exchange of block and place, that do not meet: its own inverse, and inside D. Assumes nothing.
use Prim.Native.Nat.{ℕ, ◌+◌, ◌-◌, ◌≤◌, ◌<◌}
use mathlib.Core.Bool.{Bool, true, false, ◌&&◌}
use mathlib.Core.Logic.{◌⊎◌, inl, inr, ⊎_elim}
use mathlib.Core.Path.{◌≡◌, refl, ap, ◌∙◌}
use native.Mathlib.Omega.{arith}
use native.Mathlib.Decide.{dec_lt}
use lib.Dec.{ltb}
use borrow.Author.Tests.{le-ltb, ltb-false}
use Rattle.ec20.proofs.Ranges.{within-yes, within-no}
use Rattle.ec20.specs.Devices.{Device, within, meets}
use Rattle.ec20.specs.Exchange.{swapped}
use Rattle.ec20.specs.Move.{Block}
use Rattle.blocks.specs.Apart.{Apart}

-- the e words from a on lie clear of the n from s on: all before them, or all after
abbrev pub Clear : ℕ → ℕ → ℕ → ℕ → Type 0
Clear a e s n = (a + e ≤ s) ⊎ (s + n ≤ a)

pub clear : (a e s n : ℕ) → meets a e s n ≡ false → Clear a e s n
unfolding meets
clear a e s n q = go (ltb a (s + n)) refl q
  where
    go : (t : Bool) → ltb a (s + n) ≡ t → (t && ltb s (a + e)) ≡ false → Clear a e s n
    go true f g = inl (ltb-false _ _ g)
    go false f g = inr (ltb-false _ _ f)

pub not-meets : (a e s n : ℕ) → Clear a e s n → meets a e s n ≡ false
unfolding meets
not-meets a e s n (inl h) = go (ltb a (s + n))
  where
    go : (t : Bool) → (t && ltb s (a + e)) ≡ false
    go true = le-ltb _ _ h
    go false = refl
not-meets a e s n (inr h) = rw (le-ltb _ _ h)

-- a word of theirs is none of the n
pub within-clear : (a e s n i : ℕ) → Clear a e s n → a ≤ i → i < a + e → within s n i ≡ false
within-clear a e s n i (inl h) l u = within-no s n i (λ k. omega arith)
within-clear a e s n i (inr h) l u = within-no s n i (λ k. omega arith)

module _ (v : Device) (b : Block) (q : ℕ) (two : Apart v b q) where
  apart : Clear q b.length b.start b.length
  apart = clear q b.length b.start b.length two.apart

  pub swap-block : (i : ℕ) → b.start ≤ i → i < b.start + b.length → swapped b q i ≡ i - b.start + q
  unfolding swapped
  swap-block i h l = rw (within-yes b.start b.length i h l)

  swap-place : (i : ℕ) → q ≤ i → i < q + b.length → swapped b q i ≡ i - q + b.start
  unfolding swapped
  swap-place i h l = rw (within-clear q b.length b.start b.length i apart h l, within-yes q b.length i h l)

  pub swap-out : (a e i : ℕ) → Clear a e b.start b.length → Clear a e q b.length → a ≤ i → i < a + e → swapped b q i ≡ i
  unfolding swapped
  swap-out a e i x y l u = rw (within-clear a e b.start b.length i x l u, within-clear a e q b.length i y l u)

  -- where a number lies
  data View (i : ℕ) : Type 0 where
    in_block : b.start ≤ i → i < b.start + b.length → View i
    in_place : q ≤ i → i < q + b.length → View i
    in-none : Clear i 1 b.start b.length → Clear i 1 q b.length → View i

  side : (s n i : ℕ) → ((s ≤ i) × (i < s + n)) ⊎ Clear i 1 s n
  side s n i =
      elim (dec_lt i s) [
        | yes h ↦ inr (inl (omega arith))
        | no h ↦ elim (dec_lt i (s + n)) [ yes l ↦ inl (omega arith, l) | no l ↦ inr (inr (omega arith)) ]
      ]

  view : (i : ℕ) → View i
  view i =
      ⊎_elim (λ h. in_block h.0 h.1) (λ h. ⊎_elim (λ g. in_place g.0 g.1) (λ g. in-none h g) (side q b.length i))
      (side b.start b.length i)

  twice-at : (i : ℕ) → View i → swapped b q (swapped b q i) ≡ i
  twice-at i (in_block h l) = rw (swap-block i h l, swap-place (i - b.start + q) (omega arith) (omega arith)) (omega arith)
  twice-at i (in_place h l) = rw (swap-place i h l, swap-block (i - q + b.start) (omega arith) (omega arith)) (omega arith)
  twice-at i (in-none h g) = let e = swap-out i 1 i h g (omega arith) (omega arith) in ap (swapped b q) e ∙ e

  stays_at : (i : ℕ) → i < v.words → View i → swapped b q i < v.words
  stays_at i k (in_block h l) = rw (swap-block i h l) (omega (arith, two.place_in))
  stays_at i k (in_place h l) = rw (swap-place i h l) (omega (arith, two.block_in))
  stays_at i k (in-none h g) = rw (swap-out i 1 i h g (omega arith) (omega arith)) k

  -- the exchange is its own inverse, and renames D numbers to D numbers
  pub swap-twice : (i : ℕ) → swapped b q (swapped b q i) ≡ i
  swap-twice i = twice-at i (view i)

  pub swap-stays : (i : ℕ) → i < v.words → swapped b q i < v.words
  swap-stays i k = stays_at i k (view i)
