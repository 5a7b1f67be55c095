-- The exchange by its cases: refused, or done. Assumes nothing.
use Prim.Native.Nat.{ℕ}
use mathlib.Core.List.{List}
use mathlib.Core.Path.{◌≡◌, sym, ◌∙◌}
use lib.Dec.{eqb}
use lib.IntN.{ℤ}
use lib.ListN.{length}
use borrow.Author.Tests.{eqb-true}
use Rattle.blocks.specs.Apart.{Apart}
use Rattle.ec20.proofs.NoFault.{passed, then-fine, block_inside, place_inside}
use Rattle.ec20.specs.Basics.{then}
use Rattle.ec20.specs.Devices.{ec20}
use Rattle.ec20.specs.Exchange.{Exchange, size_fault, place_fault, judge_exchange}
use Rattle.ec20.specs.Move.{Block, block_fault, block_work}
use Rattle.ec20.specs.Exchanged.{Exchanged}
use Rattle.ec20.specs.Judged.{Judged}
use Rattle.ec20.specs.Judged.{Fine}

-- the answer, and the table
abbrev pub told : Exchanged → List ℤ → Exchange
told a d = record { answer = a; words = d }

module _ (d : List ℤ) (b : Block) (q : ℕ) {j : Judged} (e : j ≡ judge_exchange ec20 d b q) where
  -- not refused: the table has 8,000 words, and block and place are inside D and apart
  pub is-apart : j ≡ Fine → Apart ec20 b q × (length d ≡ 8000)
  unfolding judge_exchange size_fault
  is-apart f =
      let nine = then-fine (size_fault ec20 d) (then (block_fault ec20 b) (then (block_work ec20 b) (place_fault ec20 b q))) (sym e ∙ f) in
      let ten = then-fine (block_fault ec20 b) (then (block_work ec20 b) (place_fault ec20 b q)) nine.1 in
      let twelve = then-fine (block_work ec20 b) (place_fault ec20 b q) ten.1 in
      let p = place_inside ec20 b q twelve.1 in
      (record { block_in = (block_inside ec20 b ten.0).1; place_in = p.0; apart = p.1 }, eqb-true _ _ (passed (eqb (length d) 8000) 9 0 nine.0))
