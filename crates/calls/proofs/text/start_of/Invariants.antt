-- The call from where word k begins is the call from word k on. Assumes nothing.
use Rattle.std.proofs.Common.{◌≡◌, ◌≤◌, length, drop}
use Rattle.calls.specs.Text.{rest_at}
use Rattle.calls.proofs.text.start_of.Given as goal

abbrev pub invariant-loop-k : goal.invariant-loop-k
invariant-loop-k l = (drop l.at l.call ≡ rest_at l.call l._k) × (l.at ≤ length l.call)
