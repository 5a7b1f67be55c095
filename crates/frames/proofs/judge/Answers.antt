use Rattle.frames.proofs.Laws.{by-1, by_3, by_2, by_none}
use Rattle.frames.proofs.judge.Goals as goal

pub returns-then-not-is_short-is_long : goal.returns-then-not-is_short-is_long
returns-then-not-is_short-is_long c = by-1 _ _ _ _ _ _ c.is_short.ensures c.is_long.ensures c.if-not-is_short-is_long.true

pub returns-then-not-fits : goal.returns-then-not-fits
returns-then-not-fits c =
    by_3 _ _ _ _ _ _ c.is_short.ensures c.is_long.ensures _ _ c.quantity_fits-fits.ensures c.range_fits-inside.ensures c.if-not-is_short-is_long.false c.if-not-fits.true

pub returns-then-not-inside : goal.returns-then-not-inside
returns-then-not-inside c =
    by_2 _ _ _ _ _ _ c.is_short.ensures c.is_long.ensures _ _ c.quantity_fits-fits.ensures c.range_fits-inside.ensures c.if-not-is_short-is_long.false c.if-not-fits.false c.if-not-inside.true

pub returns : goal.returns
returns c =
    by_none _ _ _ _ _ _ c.is_short.ensures c.is_long.ensures _ _ c.quantity_fits-fits.ensures c.range_fits-inside.ensures c.if-not-is_short-is_long.false c.if-not-fits.false c.if-not-inside.false
