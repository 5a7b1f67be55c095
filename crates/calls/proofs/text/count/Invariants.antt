-- What was counted, and what is to come from here, make the whole. Assumes nothing.
use Rattle.std.proofs.Common.{◌≡◌, ◌+◌, ◌≤◌, drop}
use Rattle.calls.specs.Text.{count_of}
use Rattle.calls.proofs.text.count.Given as goal

abbrev pub invariant-loop-byte : goal.invariant-loop-byte
invariant-loop-byte l = (l.n ≤ l.byte-index) × (l.n + count_of (drop l.byte-index l.call) ≡ count_of l.call)
