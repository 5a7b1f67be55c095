-- Tables and leftovers split, the exchange in D, and all joined. Assumes nothing.
use Rattle.memories.proofs.Exchanging.{exchange-after}
use Rattle.memories.proofs.exchanges.in_image.Goals as goal

pub returns : goal.returns
returns c =
    let split = c.split-tables.ensures in
    let join = c.join.ensures in
    let a = exchange-after _ _ _ split.value split.back c.in_words-exchanged.ensures join.image_after join.value in
    record { value = a.0; image_after = a.1.0; image_after_2 = a.1.1.0; by_index = a.1.1.1 }
