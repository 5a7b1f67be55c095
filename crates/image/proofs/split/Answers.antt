-- Each table as it was filled, and what they are together. Assumes nothing.
use native.Mathlib.Omega.{arith}
use Rattle.image.proofs.Inverse.{join-split, split-tables}
use Rattle.image.proofs.split.Goals as goal

pub returns : goal.returns
returns c =
    let long = c.requires in
    let back = join-split c.args.b.now long (λ i. omega (arith, c.type_inv.b i)) in
    let tables = split-tables _ long c.fill_bytes.ensures c.fill_bytes-2.ensures c.fill_bytes-3.ensures c.fill_bytes-4.ensures c.fill_bytes-5.ensures c.fill_words.ensures c.fill_words-2.ensures c.fill_bytes-6.ensures in record { filled = c.fill_bytes.ensures; filled_2 = c.fill_bytes-2.ensures; filled_3 = c.fill_bytes-3.ensures; filled_4 = c.fill_bytes-4.ensures; filled_5 = c.fill_bytes-5.ensures; filled_6 = c.fill_words.ensures; filled_7 = c.fill_words-2.ensures; filled_8 = c.fill_bytes-6.ensures; rest_after = tables; b_value = back }
