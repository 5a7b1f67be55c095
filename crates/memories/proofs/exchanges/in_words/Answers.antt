-- What the exchange ensures, or 9. Assumes nothing.
use mathlib.Core.Path.{refl}
use borrow.Author.Tests.{eq-eqb, ne_eqb}
use Rattle.memories.proofs.exchanges.in_words.Goals as goal

pub returns-then-size-eq16892 : goal.returns-then-size-eq16892
returns-then-size-eq16892 c = rw (eq-eqb c.args.size 16892 c.if-size-eq16892.true) c.exchange.ensures

pub returns : goal.returns
returns c = rw (ne_eqb c.args.size 16892 c.if-size-eq16892.false) refl
