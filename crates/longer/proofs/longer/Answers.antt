-- The part that is told, by lifetime. Assumes nothing.
use Rattle.std.specs.Prelude.{Some, None}
use Rattle.longer.proofs.Laws.{by_told}
use Rattle.longer.specs.declared.Part.TheVariants.{First, Second}
use Rattle.longer.proofs.longer.Goals as goal

pub returns-in-Some-First : goal.returns-in-Some-First
returns-in-Some-First c = by_told _ _ (Some (First c.in-Some-First.n)) (rw c.in-Some-First.field-0-is at c.in-Some-First.ensures.text_value)

pub returns-in-Some-Second : goal.returns-in-Some-Second
returns-in-Some-Second c = by_told _ _ (Some (Second c.in-Some-Second.n)) (rw c.in-Some-Second.field-0-is at c.in-Some-Second.ensures.text_value)

pub returns-in-None : goal.returns-in-None
returns-in-None c = by_told _ _ None c.in-None.ensures.text_value
