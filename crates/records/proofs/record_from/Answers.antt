use mathlib.Core.Path.{refl}
use Rattle.ec20.specs.File.{record_from}
use borrow.Author.Rules.{rules}
use Rattle.records.proofs.record_from.Goals as goal

pub returns : goal.returns
unfolding record_from
returns c = (rw (c.operand_at-third.ensures.0, c.operand_at-second.ensures.0, c.operand_at-first.ensures.0, c.wide-spare.ensures.0, c.wide-number.ensures.0) refl, record { number = search rules; first = search rules; second = search rules; third = search rules })
