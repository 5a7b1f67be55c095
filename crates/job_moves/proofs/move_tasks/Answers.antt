use native.Mathlib.Omega.{arith}
use Rattle.job_moves.proofs.Moving.{moving-none, moving-more, moving-all}
use Rattle.job_moves.proofs.move_tasks.Goals as goal

pub loop-k-init : goal.loop-k-init
loop-k-init c =
    let a = c.args in
    moving-none a.first a.count a.lines.now a.file.now c.requires.0

-- block and place of line k are numbers of four bytes
pub overflow_cast-start : goal.overflow_cast-start
overflow_cast-start c =
    let h = (c.requires.1 c.loop-k.k (omega arith)).below.start in
    omega (arith, h)

pub overflow_cast-n : goal.overflow_cast-n
overflow_cast-n c =
    let h = (c.requires.1 c.loop-k.k (omega arith)).below.length in
    omega (arith, h)

pub overflow_cast-place : goal.overflow_cast-place
overflow_cast-place c =
    let h = (c.requires.1 c.loop-k.k (omega arith)).below.place in
    omega (arith, h)

pub move_numbers-requires : goal.move_numbers-requires
move_numbers-requires c =
    (c.loop-k.invariant.movable.held, (c.requires.1 c.loop-k.k (omega arith)).below)

pub loop-k-preserved : goal.loop-k-preserved
loop-k-preserved c =
    let l = c.loop-k in
    moving-more _ _ _ _ l.k _ _ l.invariant (omega arith) c.move_numbers.ensures

pub shape_of-file : goal.shape_of-file
shape_of-file c = c.loop-k.invariant.size

pub returns : goal.returns
returns c = moving-all _ _ _ _ c.loop-k.k _ c.loop-k.invariant (omega arith)
