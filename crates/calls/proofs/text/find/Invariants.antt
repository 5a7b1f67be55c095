-- What is left to be looked through gives the place. Assumes nothing.
use Rattle.std.proofs.Common.{◌≡◌, ◌+◌, length, drop}
use Rattle.calls.specs.Text.{until}
use Rattle.calls.proofs.text.find.Given as goal

abbrev pub invariant-loop-at : goal.invariant-loop-at
invariant-loop-at l = l.at + length (until l.byte (drop l.at l.text)) ≡ l.from + length (until l.byte (drop l.from l.text))
