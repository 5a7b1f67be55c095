-- D where the table goes on, else as `store_other` stores. Assumes nothing.
use mathlib.Core.Path.{ap, ◌∙◌}
use lib.ListN.{length}
use mir.Facts.{to_z-of_z}
use Rattle.operands.proofs.Steps.{in_table, into_d}
use Rattle.ec20.specs.Registers.{with_number}
use Rattle.operands.proofs.store.Goals as goal

pub returns-then-o-d : goal.returns-then-o-d
returns-then-o-d c =
    let a = c.args in
    λ x sm t tv. into_d _ _ _ _ _ _ _ _ _ _ (in_table a.o.kind a.o.value (length a.d.now) c.if-o-d.true).0 (c.put_in.ensures ∙ ap (with_number a.w a.d.now a.o.value) (to_z-of_z c.ranges.z))
