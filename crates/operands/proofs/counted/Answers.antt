-- The smaller of the two, or 0 without flow. Assumes nothing.
use mir.Facts.{to_z-of_z}
use Rattle.ec20.specs.Timers.{old_of, counted_of}
use mathlib.Core.Path.{ap, ◌∙◌}
use native.Mathlib.Omega.{arith}
use Rattle.ec20.specs.Timers.{counted_of}
use borrow.Author.Rules.{rules}
use Rattle.operands.proofs.counted.Goals as goal

pub returns-then-not-on : goal.returns-then-not-on
unfolding counted_of
returns-then-not-on c = rw c.if-not-on.true (search rules)

pub returns : goal.returns
unfolding counted_of
returns c =
    let e = c.old.ensures.0 ∙ ap old_of (to_z-of_z c.ranges.z) in
    rw c.if-not-on.false (omega (arith, e, c.min.ensures), omega (arith, c.min.ensures))
