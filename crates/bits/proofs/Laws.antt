-- What a bit that is put reads as, that every other bit is as it was and that the table keeps its length; the same of a group, over the
-- width. Assumes nothing.
use mathlib.Core.Path.{◌≡◌, refl, sym, ap, ap₂, ◌∙◌}
use mathlib.Core.Bool.{Bool, true, false}
use mathlib.Core.Logic.{◌≢◌}
use mathlib.Core.List.{List}
use Prim.Native.Nat.{ℕ, zero, suc, ◌+◌, ◌*◌, ◌-◌, ◌/◌, ◌%◌, ◌^◌, ◌<◌, ◌≤◌}
use native.Mathlib.Nat.{mod-lt, mod-eq_of_lt, pow-suc, mul-le-mul_right}
use native.Mathlib.Decide.{ℕ_discrete, dec_lt}
use native.Mathlib.Omega.{arith}
use native.Mathlib.Numerals.{one-add}
use lib.Arith.{digits_mod, digits_div}
use lib.Dec.{eqb}
use lib.IntN.{ℤ, pos}
use lib.ListN.{length, get_or, length-set}
use lib.Seq.{get_or-set_same, get_or-set_other, set_out}
use lib.Pow.{pow_pos, pow_mono, high, low as rest_of, field, mod-mod-pow, shr-shr, mod-pow-add}
use lib.Signed.{mag}
use borrow.Author.Tests.{le-leb, lt-leb}
use Rattle.ec20.specs.Basics.{pick}
use Rattle.ec20.specs.Numbers.{bits_in, half, low, signed, wrap}
use Rattle.ec20.specs.Bits.{bit_of, bit_at, packed, byte_with, with_bit, spread, group_size, group_at, with_group}
use Rattle.ints.proofs.TwosLaws.{low-lt, signed_range, signed-small, wrap-fits}

-- bit i goes by the digits up to any j above it, and by those from any j below it
pub low_bit : (y i d : ℕ) → bit_of (y % 2 ^ ((d + 1) + i)) i ≡ bit_of y i
low_bit y i d = ap (λ (n : ℕ). n % 2) (field y (d + 1) i) ∙ mod-mod-pow (y / 2 ^ i) d 1

high_bit : (y j d : ℕ) → y / 2 ^ (j + (1 + d)) ≡ y / 2 ^ j / 2 / 2 ^ d
high_bit y j d = sym (shr-shr y j (1 + d)) ∙ sym (shr-shr (y / 2 ^ j) 1 d)

-- a bit is 0 or 1
pub bit-range : (x j : ℕ) → bit_of x j < 2
bit-range x j = mod-lt (x / 2 ^ j) (omega arith)

-- a byte with b for bit j
module _ (x j b : ℕ) (hb : b < 2) where
  top : byte_with x j b / 2 ^ j ≡ x / 2 ^ j / 2 * 2 + b
  unfolding byte_with
  top = high (x / 2 ^ j / 2 * 2 + b) j (mod-lt x (pow_pos j))

  bottom : byte_with x j b % 2 ^ j ≡ x % 2 ^ j
  unfolding byte_with
  bottom = rest_of (x / 2 ^ j / 2 * 2 + b) j (mod-lt x (pow_pos j))

  -- bit j is b
  pub byte-same : bit_of (byte_with x j b) j ≡ b
  byte-same = ap (λ (n : ℕ). n % 2) top ∙ digits_mod (x / 2 ^ j / 2) hb

  bit_below : (i d : ℕ) → j ≡ (d + 1) + i → bit_of (byte_with x j b) i ≡ bit_of x i
  bit_below i d e =
      sym (low_bit (byte_with x j b) i d)
      ∙ ap (λ (n : ℕ). bit_of (byte_with x j b % 2 ^ n) i) (sym e)
      ∙ ap (λ (n : ℕ). bit_of n i) bottom
      ∙ ap (λ (n : ℕ). bit_of (x % 2 ^ n) i) e
      ∙ low_bit x i d

  bit-above : (i d : ℕ) → i ≡ j + (1 + d) → bit_of (byte_with x j b) i ≡ bit_of x i
  bit-above i d e =
      ap (bit_of (byte_with x j b)) e
      ∙ ap (λ (n : ℕ). n % 2)
      (high_bit (byte_with x j b) j d ∙ ap (λ (n : ℕ). n / 2 / 2 ^ d) top ∙ ap (λ (n : ℕ). n / 2 ^ d) (digits_div (x / 2 ^ j / 2) hb) ∙ sym (high_bit x j d))
      ∙ ap (bit_of x) (sym e)

  -- every other bit is as it was
  pub byte-other : (i : ℕ) → i ≢ j → bit_of (byte_with x j b) i ≡ bit_of x i
  byte-other i ne = go (dec_lt i j)
    where
      go : Dec (i < j) → bit_of (byte_with x j b) i ≡ bit_of x i
      go (yes l) = bit_below i (j - i - 1) (omega arith)
      go (no k) = bit-above i (i - j - 1) (omega arith)

-- the table with b for bit k
module _ (bs : List ℕ) (k b : ℕ) where
  -- a store of a bit keeps the table's length
  pub bit_length : length (with_bit bs k b) ≡ length bs
  unfolding with_bit
  bit_length = length-set bs (k / 8) _

  module _ (hb : b < 2) where
    -- a bit that is put is read back
    pub bit-back : k < 8 * length bs → bit_at (with_bit bs k b) k ≡ b
    unfolding bit_at with_bit
    bit-back l = ap (λ (n : ℕ). bit_of n (k % 8)) (get_or-set_same bs (k / 8) _ 0 (omega arith)) ∙ byte-same (get_or bs (k / 8) 0) (k % 8) b hb

    -- every other bit is as it was
    pub bit-other : (m : ℕ) → m ≢ k → bit_at (with_bit bs k b) m ≡ bit_at bs m
    unfolding bit_at with_bit
    bit-other m ne = go (ℕ_discrete (m / 8) (k / 8)) (dec_lt (k / 8) (length bs))
      where
        go : Dec (m / 8 ≡ k / 8) → Dec (k / 8 < length bs) → bit_at (with_bit bs k b) m ≡ bit_at bs m
        go (yes e) (yes l) =
            ap (λ (n : ℕ). bit_of (get_or (with_bit bs k b) n 0) (m % 8)) e
            ∙ ap (λ (n : ℕ). bit_of n (m % 8)) (get_or-set_same bs (k / 8) _ 0 l)
            ∙ byte-other (get_or bs (k / 8) 0) (k % 8) b hb (m % 8) (λ q. ne (omega arith))
            ∙ ap (λ (n : ℕ). bit_of (get_or bs n 0) (m % 8)) (sym e)
        go (yes e) (no out) = ap (λ (l : List ℕ). bit_at l m) (set_out bs (k / 8) _ (omega arith))
        go (no f) l = ap (λ (n : ℕ). bit_of n (m % 8)) (get_or-set_other bs (k / 8) (m / 8) _ 0 f)

-- bits that are spread
module _ (bs : List ℕ) (i v : ℕ) where
  -- a store of bits keeps the table's length
  pub spread-length : (n : ℕ) → length (spread bs i n v) ≡ length bs
  unfolding spread
  spread-length zero = refl
  spread-length (suc n) = bit_length (spread bs i n v) (i + n) (bit_of v n) ∙ spread-length n

  -- a bit that is none of the n is as it was
  pub spread-other : (n m : ℕ) → (i ≤ m → i + n ≤ m) → bit_at (spread bs i n v) m ≡ bit_at bs m
  unfolding spread
  spread-other zero m out = refl
  spread-other (suc n) m out =
      bit-other (spread bs i n v) (i + n) (bit_of v n) (bit-range v n) m (λ e. let l : i + suc n ≤ m = out (omega arith) in omega arith)
      ∙ spread-other n m (λ h. let l : i + suc n ≤ m = out h in omega arith)

  -- bit j of the n is bit j of v
  pub spread_at : (n : ℕ) → i + n ≤ 8 * length bs → (j : ℕ) → j < n → bit_at (spread bs i n v) (i + j) ≡ bit_of v j
  unfolding spread
  spread_at zero l j h = absurd (omega arith)
  spread_at (suc n) l j h = go (ℕ_discrete j n) (λ less. spread_at n (omega arith) j less)
    where
      go : Dec (j ≡ n) → (j < n → bit_at (spread bs i n v) (i + j) ≡ bit_of v j) → bit_at (spread bs i (suc n) v) (i + j) ≡ bit_of v j
      go (yes e) ih =
          ap (λ (k : ℕ). bit_at (spread bs i (suc n) v) (i + k)) e
          ∙ bit-back (spread bs i n v) (i + n) (bit_of v n) (bit-range v n) (omega (arith, spread-length n))
          ∙ ap (bit_of v) (sym e)
      go (no f) ih = bit-other (spread bs i n v) (i + n) (bit_of v n) (bit-range v n) (i + j) (λ q. f (omega arith)) ∙ ih (omega arith)

-- n bits make a number below 2 ^ n
pub packed-range : (bs : List ℕ) (i n : ℕ) → packed bs i n < 2 ^ n
unfolding packed bit_at
packed-range bs i zero = omega arith
packed-range bs i (suc n) =
    let b : ℕ = bit_at bs (i + n) in
    let l : b < 2 = bit-range (get_or bs ((i + n) / 8) 0) ((i + n) % 8) in
    omega (arith, packed-range bs i n, pow-suc 2 n, mul-le-mul_right {m = b} {n = 1} (2 ^ n) (omega arith))

-- the number goes by its bits alone
pub packed-same : (bs cs : List ℕ) (i n : ℕ) → ((j : ℕ) → j < n → bit_at bs (i + j) ≡ bit_at cs (i + j)) → packed bs i n ≡ packed cs i n
unfolding packed
packed-same bs cs i zero h = refl
packed-same bs cs i (suc n) h =
    ap₂ (λ (x y : ℕ). x + y * 2 ^ n) (packed-same bs cs i n (λ j l. h j (omega arith))) (h n (omega arith))

-- bits that are those of v make v's low bits
pub packed-is : (bs : List ℕ) (i v n : ℕ) → ((j : ℕ) → j < n → bit_at bs (i + j) ≡ bit_of v j) → packed bs i n ≡ v % 2 ^ n
unfolding packed
packed-is bs i v zero h = omega arith
packed-is bs i v (suc n) h =
    ap₂ (λ (x y : ℕ). x + y * 2 ^ n) (packed-is bs i v n (λ j l. h j (omega arith))) (h n (omega arith))
    ∙ omega arith ∙ sym (mod-pow-add v 1 n) ∙ ap (λ (k : ℕ). v % 2 ^ k) (one-add n)

-- bits that are spread are read back
pub spread-back : (bs : List ℕ) (i v n : ℕ) → i + n ≤ 8 * length bs → packed (spread bs i n v) i n ≡ v % 2 ^ n
spread-back bs i v n l = packed-is (spread bs i n v) i v n (spread_at bs i v n l)

-- The width, by the two there are once.
full_by : (b : Bool) → 2 ^ pick b 16 32 ≡ pick b (2 ^ 15) (2 ^ 31) + pick b (2 ^ 15) (2 ^ 31)
full_by true = refl
full_by false = refl

-- the bits of a width make h + h numbers
pub full : (w : ℕ) → 2 ^ bits_in w ≡ half w + half w
full w = full_by (eqb w 16)

bounds-by : (b : Bool) → (pick b 16 32 ≤ 32) × (0 < pick b (2 ^ 15) (2 ^ 31)) × (pick b (2 ^ 15) (2 ^ 31) ≤ 2 ^ 31)
bounds-by true = (omega arith, omega arith, omega arith)
bounds-by false = (omega arith, omega arith, omega arith)

-- a width has at most 32 bits, and its largest number is from 0 up and below 2 ^ 31
pub width-bounds : (w : ℕ) → (bits_in w ≤ 32) × (0 < half w) × (half w ≤ 2 ^ 31)
width-bounds w = bounds-by (eqb w 16)

-- a group within the width has 4n bits
pub size-within : (w n : ℕ) → 4 * n ≤ bits_in w → group_size w n ≡ 4 * n
size-within w n l = rw (le-leb (4 * n) (bits_in w) l)

-- a group of the full width or more has the width's bits
pub size-full : (w n : ℕ) → bits_in w ≤ 4 * n → group_size w n ≡ bits_in w
size-full w n l = go (ℕ_discrete (4 * n) (bits_in w))
  where
    go : Dec (4 * n ≡ bits_in w) → group_size w n ≡ bits_in w
    go (yes e) = size-within w n (omega (arith, e)) ∙ e
    go (no ne) = rw (lt-leb (4 * n) (bits_in w) (omega (arith, l, ne)))

-- a group is never longer than the width
pub size-range : (w n : ℕ) → group_size w n ≤ bits_in w
size-range w n = go (dec_lt (bits_in w) (4 * n))
  where
    go : Dec (bits_in w < 4 * n) → group_size w n ≤ bits_in w
    go (yes l) = omega (arith, size-full w n (omega arith))
    go (no g) = let l : 4 * n ≤ bits_in w = omega arith in omega (arith, l, size-within w n l)

-- groups
module _ (w : ℕ) (bs : List ℕ) (i n : ℕ) where
  -- the bits of a group are those of a number of the width
  pub group-bits : packed bs i (group_size w n) < half w + half w
  group-bits = omega (arith, packed-range bs i (group_size w n), pow_mono (size-range w n), full w)

  -- a group is a number of the width
  pub group-range : mag (group_at w bs i n) < half w
  unfolding group_at
  group-range = signed_range (half w) (packed bs i (group_size w n)) group-bits

  -- a group goes by its bits alone
  pub group-same : (cs : List ℕ) → ((j : ℕ) → j < group_size w n → bit_at bs (i + j) ≡ bit_at cs (i + j)) → group_at w bs i n ≡ group_at w cs i n
  unfolding group_at
  group-same cs h = ap (signed (half w)) (packed-same bs cs i (group_size w n) h)

  -- "missing high bits read as 0": a group of less than the width is the number that its bits make
  pub group-plain : 4 * n < bits_in w → group_at w bs i n ≡ pos (packed bs i (4 * n))
  unfolding group_at
  group-plain l =
      let e : group_size w n ≡ 4 * n = size-within w n (omega arith) in
      let h : packed bs i (4 * n) < half w = omega (arith, packed-range bs i (4 * n), full w, pow-suc 2 (4 * n), pow_mono {i = suc (4 * n)} {j = bits_in w} l) in
      ap (λ (m : ℕ). signed (half w) (packed bs i m)) e ∙ signed-small (half w) (packed bs i (4 * n)) h

  module _ (v : ℤ) where
    -- a store of a group keeps the table's length
    pub group-length : length (with_group w bs i n v) ≡ length bs
    unfolding with_group
    group-length = spread-length bs i (low (half w + half w) v) (group_size w n)

    -- a bit that is none of the group's is as it was
    pub group-other : (m : ℕ) → (i ≤ m → i + group_size w n ≤ m) → bit_at (with_group w bs i n v) m ≡ bit_at bs m
    unfolding with_group
    group-other = spread-other bs i (low (half w + half w) v) (group_size w n)

    -- "a group target takes the low 4n bits": they are read back
    pub group-low : i + group_size w n ≤ 8 * length bs → group_at w (with_group w bs i n v) i n ≡ signed (half w) (low (half w + half w) v % 2 ^ group_size w n)
    unfolding group_at with_group
    group-low l = ap (signed (half w)) (spread-back bs i (low (half w + half w) v) (group_size w n) l)

    -- a number put into a group of the full width is read back
    pub group-back : bits_in w ≤ 4 * n → i + bits_in w ≤ 8 * length bs → mag v < half w → group_at w (with_group w bs i n v) i n ≡ v
    unfolding wrap
    group-back f l h =
        let e : group_size w n ≡ bits_in w = size-full w n f in
        let u : ℕ = low (half w + half w) v in
        group-low (omega (arith, e, l))
        ∙ ap (λ (m : ℕ). signed (half w) (u % m)) (ap (λ (m : ℕ). 2 ^ m) e ∙ full w)
        ∙ ap (signed (half w)) (mod-eq_of_lt (low-lt (half w + half w) v (omega (arith, (width-bounds w).1))))
        ∙ wrap-fits (half w) v h
