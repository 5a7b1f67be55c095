-- D where the table goes on, a constant, and else what `other` reads. Assumes nothing.
use Rattle.operands.proofs.Steps.{loaded-in, loaded-constant, loaded-other}
use Rattle.operands.proofs.compared.Goals as goal

pub returns-then-v-d : goal.returns-then-v-d
returns-then-v-d c = loaded-in _ _ _ _ _ _ _ c.number_in.type_inv c.if-o-eq7.true c.number_in.ensures

pub returns-then-o-eq1 : goal.returns-then-o-eq1
returns-then-o-eq1 c = loaded-constant _ _ _ _ _ _ _ c.constant.type_inv c.if-o-eq1.true c.constant.ensures

pub returns : goal.returns
returns c = loaded-other _ _ _ _ _ _ _ c.other.type_inv c.other.ensures
