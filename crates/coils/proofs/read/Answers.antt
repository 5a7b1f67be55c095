-- Bytes of eight coils, then the last. Assumes nothing.
use Prim.Native.Nat.{◌-◌, ◌/◌}
use native.Mathlib.Omega.{arith}
use Rattle.coils.proofs.Steps.{read_none, read_all}
use Rattle.coils.proofs.read.Goals as goal

pub returns-then-q-eq0 : goal.returns-then-q-eq0
returns-then-q-eq0 c = let a = c.args in read_none a.m.now a.a a.q a.reply.now c.if-q-eq0.true

pub returns : goal.returns
returns c =
    let a = c.args in
    read_all a.m.now a.a a.q ((a.q - 1) / 8) _ a.reply.now _
    (omega (arith, c.if-q-eq0.false))
    (omega arith)
    (omega (arith, c.if-q-eq0.false))
    c.move_bytes.ensures
    c.few.ensures.0
