use Rattle.faults.proofs.Constants.{in-signed}
use Rattle.faults.proofs.fits_signed.Goals as goal

pub returns : goal.returns
returns c = in-signed c.args.h c.args.v c.requires.0 c.requires.1 c.requires.2
