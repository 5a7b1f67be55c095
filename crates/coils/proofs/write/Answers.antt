-- Those in the first byte, and what is left. Assumes nothing.
use mathlib.Core.Path.{◌≡◌, sym, ap, ◌∙◌}
use native.Mathlib.Omega.{arith}
use Rattle.modbus.specs.Writes.{coils_taken}
use Rattle.coils.proofs.Steps.{taken-first}
use Rattle.coils.proofs.write.Goals as goal

pub returns-then-n-eq0 : goal.returns-then-n-eq0
unfolding coils_taken
returns-then-n-eq0 c = let a = c.args in sym (ap (coils_taken a.m.now a.a a.f.now) c.if-n-eq0.true)

pub returns-then-i-n : goal.returns-then-i-n
returns-then-i-n c =
    let a = c.args in
    c.write_on.ensures a.m.now (taken-first a.m.now _ a.a a.f.now _ c.move_few.ensures)

pub returns-else-i-n : goal.returns-else-i-n
returns-else-i-n c =
    let a = c.args in
    let e : c.min-i.result ≡ a.n = omega (arith, c.min-i.ensures, c.if-i-n.false) in
    taken-first a.m.now _ a.a a.f.now _ c.move_few.ensures ∙ ap (coils_taken a.m.now a.a a.f.now) e
