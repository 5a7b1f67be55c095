-- What it says of block and pool that 10 to 13 refuse nothing. Assumes nothing.
use mathlib.Core.Path.{◌≡◌, sym, ◌∙◌}
use Rattle.ec20.proofs.NoFault.{then-fine, block_inside, pool-inside}
use Rattle.ec20.specs.Basics.{then}
use Rattle.ec20.specs.Devices.{ec20}
use Rattle.ec20.specs.File.{Records}
use Rattle.ec20.specs.Move.{Block, Pool, block_fault, pool_fault, block_work, split_fault, judge_move}
use Rattle.ec20.specs.Judged.{Judged}
use Rattle.ec20.specs.Judged.{Fine}
use Rattle.mover.specs.Ready.{Sized}

pub is-sized : (rs : Records) (b : Block) (l : Pool) {t : Judged} → t ≡ judge_move ec20 rs b l → t ≡ Fine
    → Sized ec20 b.start b.length l.start l.end
unfolding judge_move
is-sized rs b l e f =
    let ten = then-fine (block_fault ec20 b) (then (pool_fault ec20 l) (then (block_work ec20 b) (split_fault rs b))) (sym e ∙ f) in
    let eleven = then-fine (pool_fault ec20 l) (then (block_work ec20 b) (split_fault rs b)) ten.1 in
    let x = block_inside ec20 b ten.0 in
    let y = pool-inside ec20 l eleven.0 in
    record { some = x.0; block = x.1; pool = y.0; most = y.1 }
