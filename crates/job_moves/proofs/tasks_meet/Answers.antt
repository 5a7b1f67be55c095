-- Numbers of four bytes are far below what the tests hold.
use mathlib.Core.Path.{refl}
use Rattle.jobs.specs.Tasks.{tasks_meet}
use Rattle.job_moves.proofs.tasks_meet.Goals as goal

pub returns : goal.returns
unfolding tasks_meet
returns c =
    rw (c.meets-4.ensures, c.meets-3.ensures, c.meets-2.ensures, c.meets.ensures) refl
