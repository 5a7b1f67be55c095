-- `unit_texts::put` meets its contract. Assumes nothing.
use borrow.Author.Tests.{lt-ltb, le-ltb}
use Rattle.unit_texts.specs.Held.{put_of}
use Rattle.unit_texts.proofs.put.Goals as goal

pub returns-then-i-lt64 : goal.returns-then-i-lt64
unfolding put_of
returns-then-i-lt64 c = rw (lt-ltb _ _ c.if-i-lt64.true)

pub returns-else-i-lt64 : goal.returns-else-i-lt64
unfolding put_of
returns-else-i-lt64 c = rw (le-ltb _ _ c.if-i-lt64.false)
