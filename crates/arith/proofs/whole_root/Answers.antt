-- The root's square is at most n, so that it fits. Assumes nothing.
use Prim.Native.Nat.{◌*◌, ◌≤◌}
use native.Mathlib.Omega.{arith}
use Rattle.arith.proofs.Roots.{root-law, root-small}
use Rattle.arith.proofs.whole_root.Goals as goal

square : (c : goal.After-root-r) → c.root-r.result * c.root-r.result ≤ c.args.n
square c = rw c.root-r.ensures (root-law c.args.n).0

pub overflow_mul-exact : goal.overflow_mul-exact
overflow_mul-exact c = omega (arith, square c)

pub whole-requires : goal.whole-requires
whole-requires c = omega (arith, c.root-r.ensures, root-small c.args.n)
