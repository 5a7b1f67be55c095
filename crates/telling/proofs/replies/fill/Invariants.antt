-- The bytes so far are spelt. Assumes nothing.
use Rattle.std.proofs.Common.{◌≤◌, length}
use Rattle.telling.specs.Spelt.{Spelt}
use Rattle.telling.proofs.replies.fill.Given as goal

abbrev pub invariant-loop-i : goal.invariant-loop-i
invariant-loop-i l = (l.i ≤ length l.reply) × Spelt l.reply l.i l.initial.text l.text
