use Rattle.rewrite.proofs.RecordLaws.{record-moved}
use Rattle.rewrite.proofs.move_record.Goals as goal

pub returns : goal.returns
returns c =
    record-moved _ _ _ _ c.requires.0 c.move_operand.ensures c.move_operand-2.ensures c.move_operand-3.ensures
