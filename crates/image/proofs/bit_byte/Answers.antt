-- One table after the other. Assumes nothing.
use native.Mathlib.Omega.{arith}
use borrow.Author.Tests.{lt-ltb, le-ltb}
use Rattle.image.specs.Image.{bit_byte}
use Rattle.image.proofs.bit_byte.Goals as goal

pub returns-in-0-to-31 : goal.returns-in-0-to-31
unfolding bit_byte
returns-in-0-to-31 c = let a = c.args in rw (lt-ltb a.i 32 (omega arith)) c.byte_at.ensures

pub returns-in-32-to-63 : goal.returns-in-32-to-63
unfolding bit_byte
returns-in-32-to-63 c = let a = c.args in rw (le-ltb a.i 32 (omega arith), lt-ltb a.i 64 (omega arith)) c.byte_at-in-32-to-63.ensures

pub returns-in-64-to-313 : goal.returns-in-64-to-313
unfolding bit_byte
returns-in-64-to-313 c = let a = c.args in rw (le-ltb a.i 32 (omega arith), le-ltb a.i 64 (omega arith), lt-ltb a.i 314 (omega arith)) c.byte_at-in-64-to-313.ensures

pub returns-in-314-to-345 : goal.returns-in-314-to-345
unfolding bit_byte
returns-in-314-to-345 c = let a = c.args in rw (le-ltb a.i 32 (omega arith), le-ltb a.i 64 (omega arith), le-ltb a.i 314 (omega arith), lt-ltb a.i 346 (omega arith)) c.byte_at-in-314-to-345.ensures

pub returns-in_default : goal.returns-in_default
unfolding bit_byte
returns-in_default c = let a = c.args in rw (le-ltb a.i 32 (omega arith), le-ltb a.i 64 (omega arith), le-ltb a.i 314 (omega arith), le-ltb a.i 346 (omega arith)) c.byte_at-in_default.ensures
