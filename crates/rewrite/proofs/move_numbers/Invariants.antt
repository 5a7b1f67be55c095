-- The loop's invariant: after k records the file is the moved file of k records.
use lib.ListN.{length}
use mathlib.Core.Path.{◌≡◌}
use Rattle.ec20.specs.Move.{block}
use Rattle.rewrite.proofs.RecordsLaws.{after}
use Rattle.rewrite.proofs.move_numbers.Given as goal

abbrev pub invariant-loop-k : goal.invariant-loop-k
invariant-loop-k l = (l.f ≡ after (block l.start l.n) l.place l.initial.f l.first l.k) × (length l.f ≡ length l.initial.f)
