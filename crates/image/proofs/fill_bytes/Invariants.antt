-- The loop's invariant: the first i entries are filled. Assumes nothing.
use lib.ListN.{length}
use Rattle.ec20.specs.File.{byte_at}
use Rattle.image.proofs.Filling.{Filling}
use Rattle.image.proofs.fill_bytes.Given as goal

abbrev pub invariant-loop-i : goal.invariant-loop-i
invariant-loop-i l = Filling 0 (length l.initial.to) l.i (λ j. byte_at l.b j) l.to
