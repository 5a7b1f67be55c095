-- Each answer by its constructor. Assumes nothing.
use mathlib.Core.Path.{refl}
use Rattle.ec20.specs.Answers.{told_by_scan}
use Rattle.host.specs.Seven.{seven_of}
use Rattle.host.proofs.scan.seven.Goals as goal

pub returns-in-Ok : goal.returns-in-Ok
returns-in-Ok c = rw c.in-Ok.is c.of_stop.ensures

pub returns-in-Err : goal.returns-in-Err
unfolding told_by_scan seven_of
returns-in-Err c = rw c.in-Err.is refl
