use mathlib.Core.Path.{refl, sym}
use Rattle.ec20.specs.Operands.{target_in_work}
use Rattle.faults.proofs.target_in_work.Goals as goal

pub returns-then-in_work : goal.returns-then-in_work
unfolding target_in_work
returns-then-in_work c = rw (sym c.in_work.ensures, c.if-in_work.true) refl

pub returns-then-in_work-2 : goal.returns-then-in_work-2
unfolding target_in_work
returns-then-in_work-2 c = rw (sym c.in_work.ensures, c.if-in_work.false, sym c.in_work-2.ensures, c.if-in_work-2.true) refl

pub returns : goal.returns
unfolding target_in_work
returns c = rw (sym c.in_work.ensures, c.if-in_work.false, sym c.in_work-2.ensures, c.if-in_work-2.false, c.in_work-3.ensures) refl
