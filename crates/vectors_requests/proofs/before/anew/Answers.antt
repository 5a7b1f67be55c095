-- Both sizes are at most the length of the buffer. Assumes nothing.
use native.Mathlib.Omega.{arith}
use lib.ListN.{length-take}
use Rattle.vectors_requests.proofs.before.anew.Goals as goal

pub slice_bounds-bits_anew-end : goal.slice_bounds-bits_anew-end
slice_bounds-bits_anew-end c = simp length-take (omega arith)

pub bits_anew-requires : goal.bits_anew-requires
bits_anew-requires c = (omega arith, simp length-take (omega arith))

pub slice_bounds-words_anew-end : goal.slice_bounds-words_anew-end
slice_bounds-words_anew-end c = simp length-take (omega arith)

pub words_anew-requires : goal.words_anew-requires
words_anew-requires c = (c.if-rule-gt5.false, simp length-take (omega arith))
