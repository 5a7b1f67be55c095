-- Each answer by its constructor. Assumes nothing.
use mathlib.Core.Path.{refl}
use Rattle.units.specs.Report.{told_by_clashes}
use Rattle.host.proofs.clash_lists.told.Goals as goal

pub returns-in-Err : goal.returns-in-Err
unfolding told_by_clashes
returns-in-Err c = rw c.in-Err.is (record { number_after = refl; count_after = refl })

pub returns-in-Ok : goal.returns-in-Ok
unfolding told_by_clashes
returns-in-Ok c = rw c.in-Ok.is (record { number_after = refl; count_after = refl })
