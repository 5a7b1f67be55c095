use Rattle.faults.proofs.Constants.{in-from}
use Rattle.faults.proofs.fits_from.Goals as goal

pub returns : goal.returns
returns c = in-from c.args.a c.args.v c.requires
