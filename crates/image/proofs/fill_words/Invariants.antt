-- The loop's invariant: the first i entries are filled. Assumes nothing.
use lib.ListN.{length}
use lib.IntN.{pos}
use Rattle.image.specs.Image.{word_in}
use Rattle.image.proofs.Filling.{Filling}
use Rattle.image.proofs.fill_words.Given as goal

abbrev pub invariant-loop-i : goal.invariant-loop-i
invariant-loop-i l = Filling (pos 0) (length l.initial.to) l.i (λ j. word_in l.b j) l.to
