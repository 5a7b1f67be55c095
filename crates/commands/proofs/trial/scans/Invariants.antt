-- None of the scans made so far differs. Assumes nothing.
use Rattle.commands.proofs.Series.{NoneDiffers}
use Rattle.commands.proofs.trial.scans.Given as goal

abbrev pub invariant-loop-k : goal.invariant-loop-k
invariant-loop-k l = NoneDiffers l.w l.old l.new l.initial.a l.initial.b l.s.differ l.a l.b
