-- The search from word k on gives what the whole search gives. Assumes nothing.
use Rattle.std.proofs.Common.{◌≡◌, ◌-◌}
use Rattle.calls.specs.Text.{which_from, which_of}
use Rattle.calls.proofs.text.which.Given as goal

abbrev pub invariant-loop-k : goal.invariant-loop-k
invariant-loop-k l = which_from l.name l.list l.k (l.n - l.k) ≡ which_of l.name l.list l.n
