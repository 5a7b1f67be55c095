-- The invariant: the reply has the first i registers from byte 3 on, and keeps its length. Assumes nothing.
use lib.ListN.{length}
use mathlib.Core.Path.{◌≡◌}
use Rattle.ec20.specs.Buffer.{over}
use Rattle.modbus.specs.Replies.{register_bytes}
use Rattle.registers.proofs.read.Given as goal

abbrev pub invariant-loop-i : goal.invariant-loop-i
invariant-loop-i l = (l.reply ≡ over 3 (register_bytes l.d l.a l.i) l.initial.reply) × (length l.reply ≡ length l.initial.reply)
