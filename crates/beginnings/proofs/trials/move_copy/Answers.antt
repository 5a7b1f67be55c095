use Rattle.std.proofs.Common.{refl}
use Rattle.beginnings.proofs.PlaceLaws.{moved-copy}
use Rattle.beginnings.proofs.trials.move_copy.Goals as goal

pub returns-in-Ok-ahead-clause-moved : goal.returns-in-Ok-ahead-clause-moved
returns-in-Ok-ahead-clause-moved c = (moved-copy _ _ _ _ c.move_block.ensures c.requires c.in-Ok.is c.word_at-place.ensures, refl)

pub returns-in_default-clause-moved : goal.returns-in_default-clause-moved
returns-in_default-clause-moved c = (moved-copy _ _ _ _ c.move_block.ensures c.requires c.in-Ok.is c.word_at-place.ensures, refl)
