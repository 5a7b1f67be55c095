use native.Mathlib.Nat.{sub-zero}
use borrow.Author.Rules.{rules}
use mathlib.Core.Path.{sym, ap, ◌∙◌}
use native.Mathlib.Omega.{arith}
use Rattle.ec20.specs.Devices.{ec20}
use Rattle.ec20.specs.Operands.{fault_in}
use Rattle.faults.proofs.First.{turn, found, done}
use Rattle.faults.proofs.first_bad_among.Goals as goal

pub loop-k-init : goal.loop-k-init
loop-k-init c = (search rules, rw sub-zero)

pub overflow_mul-k : goal.overflow_mul-k
overflow_mul-k c = omega (arith, c.requires.count_in_bounds)

pub overflow_add-first : goal.overflow_add-first
overflow_add-first c = omega (arith, c.requires.count_in_bounds)

pub record_from-requires : goal.record_from-requires
record_from-requires c = omega (arith, c.requires.count_in_bounds)

pub fault_in-n-requires : goal.fault_in-n-requires
fault_in-n-requires c = record { small_rec = c.record_from.ensures.1 }

pub returns-then-n-ne0 : goal.returns-then-n-ne0
returns-then-n-ne0 c =
    let l = c.loop-k in
    found _ l.k _ (search rules) (c.fault_in-n.ensures ∙ ap (fault_in ec20) c.record_from.ensures.0) c.if-n-ne0.true ∙ sym l.invariant.1

pub loop-k-preserved : goal.loop-k-preserved
loop-k-preserved c =
    let l = c.loop-k in (
      search rules,
      l.invariant.1
          ∙ turn _ l.k _ (search rules) (c.fault_in-n.ensures ∙ ap (fault_in ec20) c.record_from.ensures.0) c.if-n-ne0.false,
    )

pub returns : goal.returns
returns c =
    let l = c.loop-k in
    done _ l.k _ (search rules) ∙ sym l.invariant.1
