-- Part after part. Assumes nothing.
use Rattle.salvage.proofs.Written.{written-by}
use Rattle.salvage.proofs.write.Goals as goal

pub returns : goal.returns
returns c =
    written-by _ _ _ _ _ _ _ _ c.put.ensures c.put-2.ensures c.put-3.ensures c.end_record.ensures c.trailer-trailer.ensures c.requires.0 c.requires.1
