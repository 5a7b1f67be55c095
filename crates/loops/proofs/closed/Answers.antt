use mathlib.Core.Path.{ap}
use native.Mathlib.Nat.{mul-le-mul}
use native.Mathlib.Omega.{arith}
use Prim.Native.Nat.{ℕ, ◌+◌, ◌*◌, ◌≤◌}
use Rattle.ec20.specs.Walked.{Done}
use Rattle.loops.specs.Capped.{cap, capped}
use Rattle.loops.specs.Walks.{loop_of, Small}
use Rattle.loops.proofs.Laws.{passes-capped}
use Rattle.loops.proofs.closed.Goals as goal

-- what a loop counts at most, where passes and body are at the cap
product : (n s : ℕ) → n ≤ cap → s ≤ cap → n * (s + 1) ≤ 10000001 * 10000002
product n s h k = mul-le-mul {n₂ = 10000001} {m₂ = 10000002} h (omega arith)

pub overflow_mul-least : goal.overflow_mul-least
unfolding Small
overflow_mul-least c = let h = c.requires in omega (arith, product c.least.result c.args.w.steps (omega arith) (omega arith))

pub overflow_add-least : goal.overflow_add-least
unfolding Small
overflow_add-least c = let h = c.requires in omega (arith, product c.least.result c.args.w.steps (omega arith) (omega arith))

pub returns : goal.returns
unfolding capped loop_of
returns c = rw (c.least-2.ensures, c.least.ensures) (ap (Done (c.args.w.next + 1)) (passes-capped _ c.args.w.steps))
