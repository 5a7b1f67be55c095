-- The loop's invariant: after j words the table is that of a block of j words.
use lib.ListN.{length}
use mathlib.Core.Path.{◌≡◌}
use Rattle.ec20.specs.Exchange.{exchanged}
use Rattle.ec20.specs.Move.{block}
use Rattle.exchange.proofs.swap_blocks.Given as goal

abbrev pub invariant-loop-j : goal.invariant-loop-j
invariant-loop-j l = (l.d ≡ exchanged (block l.start l.j) l.place l.initial.d) × (length l.d ≡ length l.initial.d)
