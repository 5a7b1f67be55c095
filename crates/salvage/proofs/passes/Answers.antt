-- The judgement by its constructor. Assumes nothing.
use Rattle.ec20.specs.Devices.{ec20}
use Rattle.salvage.proofs.Judged.{passes-fine, passes-fault}
use Rattle.salvage.proofs.passes.Goals as goal

pub returns-in-Err : goal.returns-in-Err
returns-in-Err c = passes-fault ec20 _ _ _ _ c.first_bad_among.ensures c.in-Err.is

pub returns-in-Ok : goal.returns-in-Ok
returns-in-Ok c = passes-fine ec20 _ _ c.first_bad_among.ensures c.in-Ok.is
