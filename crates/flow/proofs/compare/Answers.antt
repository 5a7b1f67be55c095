use mir.Facts.{to_z-of_z}
use lib.Signed.{lt_z}
use mathlib.Core.Bool.{Bool, not, ◌&&◌}
use mathlib.Core.Path.{ap, ap₂, ◌∙◌}
use Rattle.ec20.specs.Flow.{compare_of, loaded}
use borrow.Author.Tests.{eq-eqb, ne_eqb}
use Rattle.ec20.specs.Flow.{compare_of}
use Rattle.flow.proofs.compare.Goals as goal

pub returns-then-n-eq15 : goal.returns-then-n-eq15
unfolding compare_of
returns-then-n-eq15 c = rw (eq-eqb _ _ c.if-n-eq15.true) (c.load.ensures ∙ ap₂ (λ (x y : Bool). loaded c.args.s (not x && not y)) (c.less-less.ensures ∙ ap₂ lt_z (to_z-of_z c.ranges.a) (to_z-of_z c.ranges.b)) (c.less-more.ensures ∙ ap₂ lt_z (to_z-of_z c.ranges.b) (to_z-of_z c.ranges.a)))

pub returns-then-n-eq16 : goal.returns-then-n-eq16
unfolding compare_of
returns-then-n-eq16 c = rw (ne_eqb _ _ c.if-n-eq15.false, eq-eqb _ _ c.if-n-eq16.true) (c.load-then-n-eq16.ensures ∙ ap (λ (y : Bool). loaded c.args.s y) (c.less-more.ensures ∙ ap₂ lt_z (to_z-of_z c.ranges.b) (to_z-of_z c.ranges.a)))

pub returns : goal.returns
unfolding compare_of
returns c = rw (ne_eqb _ _ c.if-n-eq15.false, ne_eqb _ _ c.if-n-eq16.false) (c.load-2.ensures ∙ ap (λ (y : Bool). loaded c.args.s y) (c.less-less.ensures ∙ ap₂ lt_z (to_z-of_z c.ranges.a) (to_z-of_z c.ranges.b)))
