-- A turn of a loop over the bytes, and its end. Assumes nothing.
use Prim.Native.Nat.{ℕ, ◌+◌, ◌<◌, ◌≤◌}
use mathlib.Core.List.{List}
use mathlib.Core.Path.{◌≡◌, sym, ap, ◌∙◌}
use native.Mathlib.Nat.{le_antisymm}
use native.Mathlib.Numerals.{add-one}
use lib.Bits.{bit_xor}
use lib.ListN.{length, get_or, drop}
use lib.Seq.{drop-cons, drop-length}
use Rattle.modbus.specs.Crc.{crc_byte, crc_from}
use Rattle.crc.specs.Eights.{eights, Takes}

pub turn : (s : List ℕ) (i c r x : ℕ) → i < length s → r ≡ crc_byte c (get_or s i 0) → crc_from c (drop i s) ≡ x → crc_from r (drop (i + 1) s) ≡ x
unfolding crc_from
turn s i c r x h er e = rw (add-one, er) (rw (drop-cons s i 0 h) at e)

pub turn-eight : (s : List ℕ) (i c w r x : ℕ) → Takes s i 8 w → r ≡ eights 8 (bit_xor c w) → crc_from c (drop i s) ≡ x
    → crc_from r (drop (i + 8) s) ≡ x
unfolding Takes
turn-eight s i c w r x h er e = ap (λ (y : ℕ). crc_from y (drop (i + 8) s)) er ∙ sym (h c) ∙ e

pub done : (s : List ℕ) (i c x : ℕ) → i ≤ length s → length s ≤ i → crc_from c (drop i s) ≡ x → c ≡ x
unfolding crc_from
done s i c x h g e = rw (le_antisymm h g, drop-length s) at e
