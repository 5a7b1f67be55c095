-- The answer by its constructor, and what move_block ensures. Assumes nothing.
use Rattle.ec20.specs.Answers.{told_by_move}
use Rattle.host.proofs.ToldLaws.{moved}
use Rattle.host.proofs.moves.ninhalto_move.Goals as goal

pub returns-in-Ok : goal.returns-in-Ok
unfolding told_by_move
returns-in-Ok c = let t = moved c.move_block.ensures c.in-Ok.is in record { f_after = t.0; number_after = t.1.0; at_after = t.1.1.0; place_after = t.1.1.1 }

pub returns-in-Err : goal.returns-in-Err
unfolding told_by_move
returns-in-Err c = let t = moved c.move_block.ensures c.in-Err.is in record { f_after = t.0; number_after = t.1.0; at_after = t.1.1.0; place_after = t.1.1.1 }
