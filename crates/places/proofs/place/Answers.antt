use Rattle.ec20.specs.Devices.{ec20}
use Rattle.ec20.specs.Move.{block, pool}
use Rattle.places.proofs.Found.{by_map}
use Rattle.places.proofs.place.Goals as goal

pub returns : goal.returns
returns c =
    let a = c.args in
    by_map ec20 _ (block a.start a.size) (pool a.from a.end) c.requires.size_nonzero.0 c.requires.size_nonzero.2 c.requires.size_nonzero.3 c.requires.count_value _ _ c.requires.size_nonzero.3 c.used_words-used.ensures c.lowest.ensures
