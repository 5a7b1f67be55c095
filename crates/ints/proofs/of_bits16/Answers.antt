-- The i16 of the bits u. Assumes nothing.
use mir.Syntax.{w64}
use Rattle.ints.proofs.Parts.{said}
use Rattle.ints.proofs.TwosLaws.{signed_range}
use Rattle.ints.proofs.of_bits16.Goals as goal

pub narrow16-requires : goal.narrow16-requires
narrow16-requires c =
    rw (said w64 c.of_bits.type_inv c.of_bits.ensures) (record { sfits = signed_range 32768 c.args.u c.requires })
