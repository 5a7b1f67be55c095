-- The exchange of a D table between the block and the place that the mover took: it is granted, and reads through the same renaming.
use Prim.Native.Nat.{ℕ}
use mathlib.Core.List.{List}
use mathlib.Core.Path.{◌≡◌, ap}
use lib.IntN.{ℤ}
use lib.ListN.{length}
use borrow.Author.Tests.{eq-eqb, le-leb}
use Rattle.ec20.specs.Exchanged.{Done}
use Rattle.ec20.specs.Judged.{Judged}
use Rattle.ec20.specs.Judged.{Fine}
use Rattle.ec20.specs.Devices.{Device}
use Rattle.ec20.specs.Exchange.{swapped, exchanged, size_fault, place_fault, judge_exchange, exchange_if, exchange_for}
use Rattle.ec20.specs.Move.{Block, Pool}
use Rattle.blocks.proofs.Swapped.{swap-twice, swap-stays}
use Rattle.blocks.specs.Apart.{Apart}
use Rattle.moving.specs.Rename.{Swap}
use Rattle.moved.proofs.Taken.{Taken, block-fine, block-off-work, placed}

-- the exchange renames the D numbers, and is its own inverse
pub is-swap : (v : Device) (b : Block) (q : ℕ) → Apart v b q → Swap (swapped b q) v.words
is-swap v b q two = record { twice = swap-twice v b q two; stays = swap-stays v b q two }

module _ {v : Device} {f : List ℕ} {b : Block} {l : Pool} {q : ℕ} {g : List ℕ} (t : Taken v f b l q g) where
  place-fine : place_fault v b q ≡ Fine
  unfolding place_fault
  place-fine = let pl = placed t in rw (le-leb _ _ pl.two.place_in, pl.two.apart, pl.off_work)

  granted : (d : List ℤ) → length d ≡ v.words → judge_exchange v d b q ≡ Fine
  unfolding judge_exchange size_fault
  granted d e = rw (eq-eqb _ _ e, block-fine t, block-off-work t, place-fine)

  pub exchange-done : (d : List ℤ) → length d ≡ v.words → exchange_for v d b q ≡ record { answer = Done; words = exchanged b q d }
  unfolding exchange_for
  exchange-done d e = ap (λ (j : Judged). exchange_if j d b q) (granted d e)
