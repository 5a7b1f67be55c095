-- A word at 16 bits, else a pair. Assumes nothing.
use borrow.Author.Tests.{ne_eqb}
use Rattle.ec20.specs.Registers.{number_at}
use Rattle.words.proofs.Steps.{told}
use Rattle.words.proofs.number_at.Goals as goal

pub returns-in-16 : goal.returns-in-16
unfolding number_at
returns-in-16 c =
    let e = c.word_at.ensures.0 in
    rw c.in-16.is (told 32768 c.word_at.type_inv e (rw e at c.word_at.ensures.1))

pub returns-in_default : goal.returns-in_default
unfolding number_at
returns-in_default c =
    let e = c.pair_at.ensures.0 in
    rw (ne_eqb _ _ c.in_default.in_default-own.rest.1) (told 2147483648 c.pair_at.type_inv e (rw e at c.pair_at.ensures.1))
