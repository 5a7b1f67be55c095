use native.Mathlib.Omega.{arith}
use Rattle.ec20.specs.File.{u32_at}
use Rattle.records.proofs.u32_at.Goals as goal

pub returns : goal.returns
unfolding u32_at
returns c = (omega arith, omega arith)
