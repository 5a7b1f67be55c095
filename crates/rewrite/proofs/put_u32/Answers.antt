use mathlib.Core.Path.{◌∙◌}
use native.Mathlib.Omega.{arith}
use Rattle.rewrite.proofs.Put.{put-bytes}
use Rattle.rewrite.proofs.put_u32.Goals as goal

pub returns : goal.returns
returns c = put-bytes _ _ _ _ _ c.requires.0 (omega arith) (c.copy_from_slice.ensures.after ∙ c.to_le_bytes.ensures)
