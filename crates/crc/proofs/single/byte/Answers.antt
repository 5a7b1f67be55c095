use borrow.Author.Rules.{rules}
use Rattle.crc.proofs.Linear.{stepped}
use Rattle.crc.proofs.single.byte.Goals as goal

pub returns : goal.returns
returns c = stepped _ _ _ _ c.requires (search rules) (rw c.from.ensures at c.high.ensures) (rw c.from.ensures at c.low.ensures)
