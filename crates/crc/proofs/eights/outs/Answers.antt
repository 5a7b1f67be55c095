use mathlib.Core.Path.{sym}
use Rattle.crc.proofs.eights.outs.Goals as goal

pub returns : goal.returns
returns c =
    rw (
      sym c.three.ensures,
      sym c.three-a.ensures,
      sym c.two.ensures,
      sym c.one.ensures,
      sym c.one-2.ensures,
      sym c.one-3.ensures,
    )
