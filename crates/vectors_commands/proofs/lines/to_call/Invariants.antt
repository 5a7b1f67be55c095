-- The loop's invariant: the first i bytes are those of the call. Assumes nothing.
use Prim.Native.Nat.{◌-◌}
use lib.ListN.{length}
use Rattle.cases.proofs.Filling.{Filling}
use Rattle.ec20.specs.File.{byte_at}
use Rattle.vectors_commands.specs.Called.{letter_of}
use Rattle.vectors_commands.proofs.lines.to_call.Given as goal

abbrev pub invariant-loop-i : goal.invariant-loop-i
invariant-loop-i l = Filling l.initial.call l.i (λ j. letter_of (byte_at l.text j)) l.call

abbrev pub decreases-loop-i : goal.decreases-loop-i
decreases-loop-i l = length l.initial.call - l.i
