use Rattle.exchange.proofs.Cases.{is-apart}
use Rattle.exchange.proofs.exchange.Goals as goal

pub swap_blocks-requires : goal.swap_blocks-requires
swap_blocks-requires c = is-apart _ _ _ c.judge.ensures c.in_ok-judge.was
