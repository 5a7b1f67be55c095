use native.Mathlib.Omega.{arith}
use Rattle.ec20.specs.Devices.{ec20}
use Rattle.marks.proofs.Walk.{passed_none, passed-more}
use Rattle.usemap.specs.Maps.{read_by, written_by}
use Rattle.usemap.proofs.Laws.{both-maps}
use Rattle.usemap.proofs.map_by.Goals as goal

pub loop-k-init : goal.loop-k-init
loop-k-init c = (passed_none ec20 read_by _, passed_none ec20 written_by _)

pub overflow_mul-k : goal.overflow_mul-k
overflow_mul-k c = omega (arith, c.requires.held.most)

pub overflow_add-first : goal.overflow_add-first
overflow_add-first c = omega (arith, c.requires.held.whole, c.requires.held.most)

pub record_from-r-requires : goal.record_from-r-requires
record_from-r-requires c = omega (arith, c.requires.held.whole)

pub mark_read-requires : goal.mark_read-requires
mark_read-requires c = c.record_from-r.ensures.1

pub mark_written-requires : goal.mark_written-requires
mark_written-requires c = c.record_from-r.ensures.1

pub loop-k-preserved : goal.loop-k-preserved
loop-k-preserved c =
    let inv = c.loop-k.invariant in
    let h = c.loop-k-test.true in (
      passed-more ec20 read_by _ _ h c.record_from-r.ensures.0 c.row_in-w.ensures inv.0 c.mark_read.ensures,
      passed-more ec20 written_by _ _ h c.record_from-r.ensures.0 c.row_in-w.ensures inv.1 c.mark_written.ensures,
    )

pub returns : goal.returns
returns c = both-maps _ _ c.loop-k-test.false c.loop-k.invariant.0 c.loop-k.invariant.1
