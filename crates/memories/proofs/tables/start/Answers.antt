-- The bytes as they were filled. Assumes nothing.
use Rattle.memories.proofs.After.{filled-start}
use Rattle.memories.proofs.tables.start.Goals as goal

pub returns : goal.returns
returns c = filled-start _ c.args.buf.now c.fill_bytes-arg-1.given c.fill_bytes-arg-2-1.given.0.1 c.fill_bytes.ensures
