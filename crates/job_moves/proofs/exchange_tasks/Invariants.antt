-- The loop's invariant: the lines from number `at` on, exchanged in the table, make the table with all of them exchanged.
use Rattle.job_moves.proofs.Exchanging.{Exchanging}
use Rattle.job_moves.proofs.exchange_tasks.Given as goal

abbrev pub invariant-loop-at : goal.invariant-loop-at
invariant-loop-at l = Exchanging l.lines l.initial.d l.at l.d
