use mathlib.Core.Path.{◌∙◌}
use Rattle.commands.proofs.Series.{drawn-alike}
use Rattle.commands.proofs.trial.scans.Goals as goal

pub loop-k-init : goal.loop-k-init
loop-k-init c m e = (c.begun-s.ensures.1, e)

pub pair-t-requires : goal.pair-t-requires
pair-t-requires c = record { made = (c.make_ready-p.ensures, c.look_up-old_goes.ensures); made_2 = (c.make_ready-q.ensures, c.look_up-new_goes.ensures) }

pub loop-k-preserved : goal.loop-k-preserved
loop-k-preserved c m e =
    let so_far = c.loop-k.invariant m e in
    let p = c.pair-t.ensures.alike m (drawn-alike _ _ _ _ c.draw_inputs-state.ensures.a_after c.draw_inputs-state.ensures.b_after so_far.1) in
    (c.scan-s.ensures.0 p.0 ∙ so_far.0, p.1)

pub returns : goal.returns
returns c = λ m e. (c.loop-k.invariant m e).0
