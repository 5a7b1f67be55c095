-- A word at 16 bits, else a pair, of words that are there. Assumes nothing.
use Prim.Native.Nat.{◌+◌, ◌^◌}
use borrow.Author.Tests.{ne_eqb}
use Rattle.ec20.specs.Registers.{word_at, number_at}
use Rattle.words.proofs.Steps.{Told, word_read, pair_read}
use Rattle.words.proofs.number_in.Goals as goal
use Rattle.words.proofs.number_in.Goals.{After-wide16-in_default, After-wide16-in_default-2}

-- the two words of a pair
high : (c : After-wide16-in_default) → Told (2 ^ 15) c.wide16-in_default.result (word_at c.args.d.now c.args.i)
high c =
    let a = c.args in
    word_read a.d.now a.i c.wide16-in_default.type_inv c.wide16-arg-in_default-1.given c.wide16-in_default.ensures

low : (c : After-wide16-in_default-2) → Told (2 ^ 15) c.wide16-in_default-2.result (word_at c.args.d.now (c.args.i + 1))
low c =
    let a = c.args in
    word_read a.d.now (a.i + 1) c.wide16-in_default-2.type_inv c.wide16-arg-in_default-2-1.given c.wide16-in_default-2.ensures

pub returns-in-16 : goal.returns-in-16
unfolding number_at
returns-in-16 c =
    let a = c.args in
    rw c.in-16.is (word_read a.d.now a.i c.wide16.type_inv c.wide16-arg-1.given c.wide16.ensures)

pub returns-in_default : goal.returns-in_default
unfolding number_at
returns-in_default c =
    let a = c.args in
    rw (ne_eqb _ _ c.in_default.in_default-own.rest.1)
    (pair_read a.d.now a.i _ _ c.raised-high.ensures (high c.before.before.before.before.before).0 c.raised-low.ensures (low c.before.before).0 c.of_bits.type_inv c.of_bits.ensures)
