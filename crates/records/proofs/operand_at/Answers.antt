use mathlib.Core.Path.{refl}
use Rattle.ec20.specs.File.{operand_at}
use borrow.Author.Rules.{rules}
use Rattle.records.proofs.operand_at.Goals as goal

pub returns : goal.returns
unfolding operand_at
returns c = (rw (c.u32_at-value.ensures.0, c.wide-group.ensures.0, c.wide-kind.ensures.0) refl, record { kind = search rules; group = search rules; value = search rules })
