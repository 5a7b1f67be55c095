-- Free rows by the first word and where its run ends. Assumes nothing.
use Rattle.std.proofs.Common.{arith}
use Rattle.telling.proofs.Rows.{rows-used, rows-work, rows-ahead}
use Rattle.telling.proofs.picture.free_rows.Goals as goal

pub returns-then-marks-ne0 : goal.returns-then-marks-ne0
returns-then-marks-ne0 c = (rows-used _ _ _ _ c.marks.ensures c.if-marks-ne0.true, omega arith)

pub returns-then-end-gt7900 : goal.returns-then-end-gt7900
returns-then-end-gt7900 c = (rows-work _ _ _ _ c.marks.ensures c.if-marks-ne0.false _ c.run_end-end.ensures.0 c.if-end-gt7900.true, omega arith)

pub returns : goal.returns
returns c = (rows-ahead _ _ _ _ c.marks.ensures c.if-marks-ne0.false _ c.run_end-end.ensures.0 c.if-end-gt7900.false, omega arith)
