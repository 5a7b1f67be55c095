-- The scan with the budget that the call does not name. Assumes nothing.
use Rattle.engine.proofs.scan_unbudgeted.Goals as goal

pub shape_of-y : goal.shape_of-y
shape_of-y c = c.y-1.given

pub shape_of-m : goal.shape_of-m
shape_of-m c = c.m-1.given

pub shape_of-sm : goal.shape_of-sm
shape_of-sm c = c.sm-1.given

pub shape_of-t : goal.shape_of-t
shape_of-t c = c.t-1.given

pub shape_of-d : goal.shape_of-d
shape_of-d c = c.d-1.given

pub shape_of-tv : goal.shape_of-tv
shape_of-tv c = c.tv-1.given

pub shape_of-rest : goal.shape_of-rest
shape_of-rest c = c.rest-1.given

pub returns : goal.returns
returns c = c.scan_file.ensures
