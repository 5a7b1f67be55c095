-- Some of a file's records that follow each other are records from another byte on: what is promised of `first` and `count` is promised of them.
use Prim.Native.Nat.{ℕ, ◌+◌, ◌*◌, ◌<◌, ◌≤◌}
use mathlib.Core.List.{List}
use mathlib.Core.Path.{◌≡◌, ap}
use native.Mathlib.Omega.{arith}
use Rattle.ec20.specs.File.{record_from, records_from}
use Rattle.records.specs.Ranges.{Held}

-- the m records from record k on lie in the file
pub part_held : (n first count k m : ℕ) → Held n first count → 0 < m → k + m ≤ count → Held n (first + 20 * k) m
part_held n first count k m h some inside =
    let whole : first + 20 * count + 8 ≤ n = h.whole in
    let most : count ≤ 2000 = h.most in
    let near : first + 20 * count ≤ 44096 = h.near in
    record { whole = omega arith; some = some; most = omega arith; near = omega arith }

-- record j of them is record k + j of the file
pub part_at : (f : List ℕ) (first count k m j : ℕ) → (records_from f (first + 20 * k) m).at j ≡ (records_from f first count).at (k + j)
part_at f first count k m j = let e : first + 20 * k + 20 * j ≡ first + 20 * (k + j) = omega arith in ap (record_from f) e
