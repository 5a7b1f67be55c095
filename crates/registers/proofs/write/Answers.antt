use Prim.Native.Nat.{ℕ}
use lib.ListN.{length-set}
use mathlib.Core.Path.{refl, ap, ◌∙◌}
use mir.Syntax.{w16}
use native.Mathlib.Omega.{arith}
use Rattle.ints.proofs.Parts.{said}
use Rattle.modbus.specs.Writes.{word_of, registers_taken}
use Rattle.registers.proofs.Steps.{write-more, number_is}
use Rattle.registers.proofs.write.Goals as goal

pub loop-i-init : goal.loop-i-init
unfolding registers_taken
loop-i-init c = (refl, refl)

pub loop-i-preserved : goal.loop-i-preserved
loop-i-preserved c =
    let l = c.loop-i in
    let a = c.args in (
      write-more a.d.now l.d a.a l.i a.f.now _ l.invariant.0
          (said w16 c.of_bits16.type_inv
          (c.of_bits16.ensures ∙ ap word_of (number_is a.f.now l.i _ _ c.from.ensures c.from-in-loop-i.ensures))),
      length-set l.d _ _ ∙ l.invariant.1,
    )

pub returns : goal.returns
returns c =
    let a = c.args in
    c.loop-i.invariant.0 ∙ ap (λ (k : ℕ). registers_taken a.d.now a.a a.f.now k) (omega arith)
