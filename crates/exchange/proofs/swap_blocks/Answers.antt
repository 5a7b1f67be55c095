use Prim.Native.Nat.{◌+◌}
use lib.IntN.{pos}
use mathlib.Core.Path.{refl, sym, ◌∙◌}
use native.Mathlib.Omega.{arith}
use Rattle.std.proofs.lemmas.List.Edits.{swap_is}
use Rattle.exchange.proofs.Swaps.{exchanged-none, exchanged-more}
use Rattle.exchange.proofs.swap_blocks.Goals as goal

pub loop-j-init : goal.loop-j-init
loop-j-init c = (exchanged-none _ _ _, refl)

pub loop-j-preserved : goal.loop-j-preserved
loop-j-preserved c =
    let l = c.loop-j in
    let a = c.args in (
      exchanged-more _ _ _ _ c.requires.0 c.requires.1 _ (omega arith) l.invariant.0
          (c.swap.ensures.after ∙ sym (swap_is l.d (a.start + l.j) (a.place + l.j) (pos 0) (omega arith) (omega arith))),
      c.swap.ensures.len ∙ l.invariant.1,
    )
