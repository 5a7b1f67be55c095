use Rattle.ec20.specs.Code.{instr_of}
use borrow.Author.Tests.{lt-ltb, le-ltb}
use mathlib.Core.Path.{refl, ap, ◌∙◌}
use Rattle.ec20.specs.Code.{code_of}
use Rattle.decode.proofs.instr_at.Goals as goal

pub returns-then-k-count : goal.returns-then-k-count
unfolding code_of
returns-then-k-count c = rw (lt-ltb _ _ c.if-k-count.true) (c.instr_of.ensures ∙ ap instr_of c.record_from.ensures.0)

pub returns : goal.returns
unfolding code_of
returns c = rw (le-ltb _ _ c.if-k-count.false) refl
