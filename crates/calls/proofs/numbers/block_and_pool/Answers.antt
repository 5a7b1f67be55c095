use Rattle.std.proofs.Common.{arith}
use Rattle.std.proofs.lemmas.Grind.{common_steps}
use Rattle.calls.proofs.Digits.{all-each, each-all}
use Rattle.calls.proofs.numbers.block_and_pool.Goals as goal

pub returns-in_err-word-clause-some : goal.returns-in_err-word-clause-some
returns-in_err-word-clause-some c = grind (arith, common_steps, all-each c.args.call.now)

pub returns-in_err-word-2-clause-some : goal.returns-in_err-word-2-clause-some
returns-in_err-word-2-clause-some c = grind (arith, common_steps, all-each c.args.call.now)

pub returns-in_err-word-3-clause-some : goal.returns-in_err-word-3-clause-some
returns-in_err-word-3-clause-some c = grind (arith, common_steps, all-each c.args.call.now)

pub returns-in_err-word-4-clause-some : goal.returns-in_err-word-4-clause-some
returns-in_err-word-4-clause-some c = grind (arith, common_steps, all-each c.args.call.now)

pub returns-clause-some : goal.returns-clause-some
returns-clause-some c = grind (arith, common_steps, each-all c.args.call.now)
