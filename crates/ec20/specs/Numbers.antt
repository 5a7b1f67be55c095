-- Numbers at every width at once. A width is given by h, one more than the largest number that it holds: 2 ^ 15 at 16 bits, 2 ^ 31 at
-- 32. It holds the numbers from -h to h - 1, and its bits are a number below h + h.
use Rattle.std.specs.Prelude.{ℕ, zero, suc, ◌+◌, ◌-◌, ◌*◌, ◌%◌, ◌^◌, Bool, not, ◌&&◌, ltb, leb, eqb, ℤ, pos, negsuc, neg_ℤ, nat_abs}
use Rattle.std.proofs.Math.IntN.{sub_ℕ}
use Rattle.std.specs.Int.Signed.{lt_z, le_z}
use Rattle.ec20.specs.Basics.{pick}

-- "16-bit", "32-bit": a width of w bits. Word instructions have these two; any number but 16 is taken for 32.
abbrev pub bits_in : ℕ → ℕ
bits_in w = pick (eqb w 16) 16 32

-- one more than the largest number of that width
abbrev pub half : ℕ → ℕ
half w = pick (eqb w 16) (2 ^ 15) (2 ^ 31)

-- z modulo m: the low bits of z
abbrev pub low : ℕ → ℤ → ℕ
low m (pos n) = n % m
low m (negsuc n) = (m - 1) - n % m

-- the bits u, read as two's complement: u, or u less h + h
unfoldable pub signed : ℕ → ℕ → ℤ
signed h u = pick (ltb u h) (pos u) (sub_ℕ u (h + h))

-- the low bits of z, read as two's complement: what is stored of an exact result
unfoldable pub wrap : ℕ → ℤ → ℤ
wrap h z = signed h (low (h + h) z)

abbrev pub is_zero : ℤ → Bool
is_zero z = eqb (nat_abs z) 0

-- z is above the width's range
abbrev pub is_above : ℕ → ℤ → Bool
is_above h z = not (lt_z z (pos h))

-- z is below the width's range
abbrev pub is_below : ℕ → ℤ → Bool
is_below h z = lt_z z (neg_ℤ (pos h))

-- z is the lowest number of the width
abbrev pub is_lowest : ℕ → ℤ → Bool
is_lowest h z = not (lt_z (neg_ℤ (pos h)) z)

-- z is from a to b
abbrev pub between : ℤ → ℤ → ℤ → Bool
between a b z = le_z a z && le_z z b

-- the largest whole root of n, by counting up from r, k numbers at most
unfoldable pub root_from : ℕ → ℕ → ℕ → ℕ
root_from n r zero = r
root_from n r (suc k) =
    let higher = root_from n (suc r) k in
    pick (leb (suc r * suc r) n) higher r

-- "the largest whole root": it is at most n
unfoldable pub root_of : ℕ → ℕ
root_of n = root_from n 0 n
