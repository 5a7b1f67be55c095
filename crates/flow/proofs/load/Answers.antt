-- The block stack as it is where a rung starts, else with the flow pushed. Assumes nothing.
use mathlib.Core.Path.{◌≡◌, refl, ◌∙◌}
use Rattle.ec20.specs.Basics.{pick}
use Rattle.ec20.specs.Flow.{is_on, loaded, push, starts_now}
use Rattle.flow.proofs.load.Goals as goal
use Rattle.flow.proofs.load.Goals.{then-s, else-s}

-- the block stack that was chosen
blocks_is : (c : goal.After-make_flow) → c.if-s.n ≡ pick (starts_now c.args.s) c.args.s.blocks (push c.args.s.blocks (is_on c.args.s))
unfolding starts_now
blocks_is c =
    elim c.if-s.branch [
      | then-s w ↦ w.n-is ∙ rw w.if-s.true refl
      | else-s w ↦ w.n-is ∙ rw (w.if-s.false, c.pushed-more.ensures, c.is_on.ensures) refl
    ]

pub returns : goal.returns
unfolding loaded
returns c = rw (c.make_flow.ensures, c.flow_of.ensures, blocks_is c) refl
