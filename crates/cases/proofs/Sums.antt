-- A turn of the checksum, and its end. Assumes nothing.
use Rattle.std.proofs.Common.{◌≡◌, ℕ, ◌+◌, ◌*◌, ◌%◌, ◌<◌, ◌≤◌, List, length, get_or, drop, le_antisymm, add-one, drop-cons}
use lib.Seq.{drop-length}
use Rattle.cases.specs.Summed.{sum_from}

pub turn : (s : List ℕ) (i a b x y w : ℕ) → i < length s → x ≡ (a + get_or s i 0) % 65521 → y ≡ (b + x) % 65521
    → sum_from a b (drop i s) ≡ w → sum_from x y (drop (i + 1) s) ≡ w
unfolding sum_from
turn s i a b x y w h ex ey e = rw (add-one, ey, ex) (rw (drop-cons s i 0 h) at e)

pub done : (s : List ℕ) (i a b w : ℕ) → i ≤ length s → length s ≤ i → sum_from a b (drop i s) ≡ w → b * 65536 + a ≡ w
unfolding sum_from
done s i a b w h g e = rw (le_antisymm h g, drop-length s) at e
