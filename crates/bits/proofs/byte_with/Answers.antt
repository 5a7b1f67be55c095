-- The byte without its bit j, and with b there. Assumes nothing.
use Rattle.bits.proofs.Steps.{byte-lt, byte-code}
use Rattle.bits.proofs.byte_with.Goals as goal

pub overflow_cast-result : goal.overflow_cast-result
overflow_cast-result c =
    rw (byte-code c.args.x c.args.j c.args.b c.ranges.x.fits c.requires.0 c.requires.1)
    (record { fits = byte-lt c.args.x c.args.j c.args.b c.ranges.x.fits c.requires.0 c.requires.1 })

pub returns : goal.returns
returns c = byte-code c.args.x c.args.j c.args.b c.ranges.x.fits c.requires.0 c.requires.1
