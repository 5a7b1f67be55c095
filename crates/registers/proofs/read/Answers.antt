use lib.ListN.{length-set}
use Prim.Native.Nat.{ℕ, ◌+◌}
use mathlib.Core.Path.{refl, ap, ◌∙◌}
use mir.Syntax.{w16}
use native.Mathlib.Omega.{arith}
use borrow.Author.Rules.{rules}
use Rattle.ec20.specs.Buffer.{over}
use Rattle.ec20.specs.Numbers.{low}
use Rattle.ec20.specs.Registers.{word_at}
use Rattle.ints.proofs.Parts.{said}
use Rattle.modbus.specs.Replies.{register_bytes}
use Rattle.registers.proofs.Steps.{read_none, read_more, length_two}
use Rattle.registers.proofs.read.Goals as goal

pub loop-i-init : goal.loop-i-init
loop-i-init c = (read_none _ _ _, refl)

pub bounds-reply-i-in-loop-i : goal.bounds-reply-i-in-loop-i
bounds-reply-i-in-loop-i c = simp length-set (omega arith)

pub loop-i-preserved : goal.loop-i-preserved
loop-i-preserved c =
    let l = c.loop-i in
    let a = c.args in (
      read_more a.d.now a.a l.i c.bits16-u.result a.reply.now l.reply l.invariant.0
          (c.bits16-u.ensures.0 ∙ ap (low 65536) (said w16 {z = word_at a.d.now (a.a + l.i)} (search rules) refl))
          (omega arith),
      length_two l.reply _ _ _ _ ∙ l.invariant.1,
    )

pub returns : goal.returns
returns c =
    let a = c.args in
    c.loop-i.invariant.0 ∙ ap (λ (k : ℕ). over 3 (register_bytes a.d.now a.a k) a.reply.now) (omega arith)
