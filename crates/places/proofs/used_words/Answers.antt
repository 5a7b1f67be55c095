use borrow.Author.Rules.{rules}
use Rattle.ec20.specs.Devices.{ec20}
use Rattle.ec20.specs.UseMap.{holds}
use Rattle.marks.proofs.Walk.{passed_none, passed-more, passed-all}
use Rattle.places.proofs.used_words.Goals as goal

pub loop-k-init : goal.loop-k-init
loop-k-init c = passed_none ec20 holds _

pub loop-k-preserved : goal.loop-k-preserved
loop-k-preserved c =
    passed-more ec20 holds _ _ (search rules) c.record_from-r.ensures.0 c.row_in.ensures c.loop-k.invariant c.mark_all.ensures

pub returns : goal.returns
returns c = passed-all ec20 holds _ _ (search rules) c.loop-k.invariant
