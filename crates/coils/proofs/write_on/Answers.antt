-- Whole bytes, and what is left. Assumes nothing.
use Prim.Native.Nat.{◌-◌, ◌/◌}
use native.Mathlib.Omega.{arith}
use Rattle.coils.proofs.Steps.{taken-on}
use Rattle.coils.proofs.write_on.Goals as goal

pub returns : goal.returns
returns c =
    let a = c.args in
    λ m0 e.
    taken-on m0 a.m.now _ _ a.a a.f.now a.i ((a.n - a.i - 1) / 8) a.n e
    c.requires.1
    (λ j. grind arith)
    (omega arith)
    c.move_bytes.ensures
    c.move_few.ensures
