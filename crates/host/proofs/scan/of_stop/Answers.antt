-- Each answer by its constructor. Assumes nothing.
use mathlib.Core.Path.{refl}
use Rattle.ec20.specs.Answers.{told_by_scan}
use Rattle.host.specs.Seven.{seven_of}
use Rattle.host.proofs.scan.of_stop.Goals as goal

pub returns-in-Ended : goal.returns-in-Ended
unfolding told_by_scan seven_of
returns-in-Ended c = rw c.in-Ended.is refl

pub returns-in-Watchdog : goal.returns-in-Watchdog
unfolding told_by_scan seven_of
returns-in-Watchdog c = rw c.in-Watchdog.is refl
