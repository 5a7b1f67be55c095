use mathlib.Core.Path.{refl}
use Rattle.marks.specs.Marked.{marking}
use Rattle.marks.proofs.Maps.{marking-more}
use Rattle.marks.proofs.mark.Goals as goal

pub loop-k-init : goal.loop-k-init
unfolding marking
loop-k-init c = refl

pub loop-k-preserved : goal.loop-k-preserved
loop-k-preserved c = marking-more c.args.map.now c.args.start c.loop-k.k c.loop-k.invariant c.put_bit.ensures
