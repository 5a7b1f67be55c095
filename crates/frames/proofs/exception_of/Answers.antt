use mathlib.Core.Path.{refl, ◌∙◌}
use Rattle.frames.proofs.exception_of.Goals as goal

pub returns : goal.returns
returns c = c.judge.ensures ∙ rw (c.byte_at-n.ensures.0, c.number_in-a.ensures.0, c.number_in-q.ensures.0, c.byte_at-c.ensures.0) refl
