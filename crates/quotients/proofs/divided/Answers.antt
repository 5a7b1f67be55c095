-- All sources are read of the memory as it was, and the laws of Divisions put the calls together. Assumes nothing.
use Prim.Native.Nat.{ℕ, ◌/◌}
use mathlib.Core.Path.{ap, ◌∙◌}
use native.Mathlib.Omega.{arith}
use Rattle.quotients.proofs.Divisions.{words-on, second_fits, value_fits, refused, paired}
use Rattle.quotients.proofs.divided.Goals as goal

pub returns-then-r-ne0 : goal.returns-then-r-ne0
returns-then-r-ne0 g c =
    refused c.requires.word_at c.requires.divides c.args.u c.requires.by_index.1 _ _ _ _ _ c.requires.by_index.0 c.operand_at.ensures.0 c.load-v.type_inv c.load-v.ensures.0 c.div-r.ensures c.if-r-ne0.true

pub store-requires : goal.store-requires
store-requires g c =
    (omega (arith, c.operand_at-t.ensures.1.value), value_fits c.requires.word_at c.requires.divides c.args.u c.requires.by_index.1 _ _ _ _ _ c.requires.by_index.0 c.operand_at.ensures.0 c.load-v.type_inv c.load-v.ensures.0 c.div-r.ensures)

pub second-requires : goal.second-requires
second-requires g c =
    (c.operand_at-t.ensures.1.value, second_fits c.requires.word_at c.requires.divides c.args.u c.requires.by_index.1 c.load-v.result c.div-r.ensures, ap (λ (e : ℕ). e / 2) (c.wide-words.ensures.0 ∙ c.third_at.ensures) ∙ words-on c.requires.word_at c.requires.divides)

pub returns : goal.returns
returns g c =
    paired c.requires.word_at c.requires.divides c.args.u c.requires.by_index.1 _ _ _ _ _ c.requires.by_index.0 c.operand_at.ensures.0 c.load-v.type_inv c.load-v.ensures.0 c.div-r.ensures c.operand_at-t.ensures.0 c.if-r-ne0.false c.store.ensures c.second.ensures
