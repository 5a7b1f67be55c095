-- The file that is written has 2,000 records at most, so that it is a part of the room. Assumes nothing.
use Rattle.std.proofs.Common.{arith, length-take}
use Rattle.torn.proofs.Fits.{done-fits}
use Rattle.file_commands.proofs.salvages.run_over.Goals as goal

pub overflow_add-n : goal.overflow_add-n
overflow_add-n g c = let h = (done-fits _ _ _ _ c.in-Ok.saved.kept c.in-Ok.saved.added c.in-Ok.saved.rest c.salvage.ensures c.in-Ok.is).0 in omega (arith, h)

pub overflow_mul-n : goal.overflow_mul-n
overflow_mul-n g c = let h = (done-fits _ _ _ _ c.in-Ok.saved.kept c.in-Ok.saved.added c.in-Ok.saved.rest c.salvage.ensures c.in-Ok.is).0 in omega (arith, h)

pub overflow_add-n-in-Ok : goal.overflow_add-n-in-Ok
overflow_add-n-in-Ok g c = let h = (done-fits _ _ _ _ c.in-Ok.saved.kept c.in-Ok.saved.added c.in-Ok.saved.rest c.salvage.ensures c.in-Ok.is).0 in omega (arith, h)

pub slice_bounds-room-end : goal.slice_bounds-room-end
slice_bounds-room-end g c = let h = (done-fits _ _ _ _ c.in-Ok.saved.kept c.in-Ok.saved.added c.in-Ok.saved.rest c.salvage.ensures c.in-Ok.is).0 in omega (arith, h)

pub slice_bounds-tell-end : goal.slice_bounds-tell-end
slice_bounds-tell-end g c =
    let h = (done-fits _ _ _ _ c.in-Ok.saved.kept c.in-Ok.saved.added c.in-Ok.saved.rest c.salvage.ensures c.in-Ok.is).0 in
    simp length-take (omega (arith, h))
