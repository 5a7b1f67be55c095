use mathlib.Core.Path.{refl}
use Rattle.ec20.specs.Devices.{meets_work, meets}
use Rattle.faults.proofs.meets_work.Goals as goal

pub returns : goal.returns
unfolding meets_work meets
returns c = refl
