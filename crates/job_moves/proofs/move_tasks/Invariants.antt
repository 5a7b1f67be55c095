-- The loop's invariant: the lines from number k on, moved in the file, make the file with all of them moved.
use Rattle.job_moves.proofs.Moving.{Moving}
use Rattle.job_moves.proofs.move_tasks.Given as goal

abbrev pub invariant-loop-k : goal.invariant-loop-k
invariant-loop-k l = Moving l.first l.count l.lines l.initial.file l.k l.file
