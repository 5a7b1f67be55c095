-- Each arm is its rule's bytes; past the rules nothing is stored. Assumes nothing.
use Rattle.std.proofs.Common.{◌≡◌, length, sym, arith}
use lib.ListN.{get_or-eq_default}
use Rattle.cases.specs.Drawn.{ruled, filled_by}
use Rattle.cases.proofs.drawing.fill.Goals as goal

pub returns-then-rule-gt5 : goal.returns-then-rule-gt5
unfolding filled_by ruled
returns-then-rule-gt5 c =
    let a = c.args in
    sym (get_or-eq_default (ruled (length a.b.now) a.bits a.seed) a.b.now {n = a.rule} (omega arith))

pub returns-in-0 : goal.returns-in-0
unfolding filled_by ruled
returns-in-0 c = rw c.in-0.is c.rising.ensures

pub returns-in-1 : goal.returns-in-1
unfolding filled_by ruled
returns-in-1 c = rw c.in-1.is c.rising-in-1.ensures

pub returns-in-2 : goal.returns-in-2
unfolding filled_by ruled
returns-in-2 c = rw c.in-2.is c.draw.ensures

pub returns-in-3 : goal.returns-in-3
unfolding filled_by ruled
returns-in-3 c = rw c.in-3.is c.draw-in-3.ensures

pub returns-in-4 : goal.returns-in-4
unfolding filled_by ruled
returns-in-4 c = rw c.in-4.is c.rising-in-4.ensures

pub returns-in_default : goal.returns-in_default
unfolding filled_by ruled
returns-in_default c =
    let e : c.args.rule ≡ 5 = omega arith in
    rw e c.draw-in_default.ensures
