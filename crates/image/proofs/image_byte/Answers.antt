-- The bits, then the words, then the leftovers. Assumes nothing.
use native.Mathlib.Omega.{arith}
use borrow.Author.Tests.{lt-ltb, le-ltb}
use Rattle.image.specs.Image.{image_byte}
use Rattle.image.proofs.image_byte.Goals as goal

pub returns-in-0-to-377-clause-value : goal.returns-in-0-to-377-clause-value
unfolding image_byte
returns-in-0-to-377-clause-value c = let a = c.args in rw (lt-ltb a.i 378 (omega arith)) c.bit_byte.ensures

pub returns-in-378-to-16377-clause-value : goal.returns-in-378-to-16377-clause-value
unfolding image_byte
returns-in-378-to-16377-clause-value c = let a = c.args in rw (le-ltb a.i 378 (omega arith), lt-ltb a.i 16378 (omega arith)) c.byte_of.ensures.value

pub returns-in-16378-to-16889-clause-value : goal.returns-in-16378-to-16889-clause-value
unfolding image_byte
returns-in-16378-to-16889-clause-value c = let a = c.args in rw (le-ltb a.i 378 (omega arith), le-ltb a.i 16378 (omega arith), lt-ltb a.i 16890 (omega arith)) c.byte_of-in-16378-to-16889.ensures.value

pub returns-in_default-clause-value : goal.returns-in_default-clause-value
unfolding image_byte
returns-in_default-clause-value c = let a = c.args in rw (le-ltb a.i 378 (omega arith), le-ltb a.i 16378 (omega arith), le-ltb a.i 16890 (omega arith)) c.byte_at.ensures
