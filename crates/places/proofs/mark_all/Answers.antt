use Rattle.ec20.specs.Devices.{ec20}
use Rattle.ec20.specs.UseMap.{holds}
use Rattle.marks.proofs.Walk.{widen-held, widen-three}
use Rattle.places.proofs.mark_all.Goals as goal

pub returns : goal.returns
returns c =
    widen-three ec20 holds _ _ (widen-held ec20 _ _ _ c.mark_held.ensures) (widen-held ec20 _ _ _ c.mark_held-2.ensures) (widen-held ec20 _ _ _ c.mark_held-3.ensures)
