use mathlib.Core.Path.{ap₂}
use Prim.Native.Nat.{ℕ, ◌+◌, ◌*◌}
use native.Mathlib.Omega.{arith}
use Rattle.modbus.specs.Frame.{number_in}
use Rattle.frames.proofs.number_in.Goals as goal

pub returns : goal.returns
unfolding number_in
returns c =
    (ap₂ (λ (x y : ℕ). x * 256 + y) c.byte_at.ensures.0 c.byte_at-2.ensures.0, omega arith)
