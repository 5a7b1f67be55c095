-- Bits by whole bytes, over any table: the number that many bits make has that of each run of them as a part, and bits that are put back where
-- they stand change nothing. Eight bits of a byte are the byte. Assumes nothing.
use Prim.Native.Nat.{ℕ, zero, suc, ◌+◌, ◌*◌, ◌-◌, ◌/◌, ◌%◌, ◌^◌, ◌<◌, ◌≤◌}
use mathlib.Core.List.{List}
use mathlib.Core.Path.{◌≡◌, refl, sym, ap, ap₂, ◌∙◌}
use native.Mathlib.Decide.{dec_lt}
use native.Mathlib.Nat.{mod-lt, mod-eq_of_lt, div-mul-le_self, add-mul, mul_assoc, mul_comm, pow-suc}
use native.Mathlib.Numerals.{one-add}
use native.Mathlib.Omega.{arith}
use lib.Arith.{digits_lt}
use lib.Bits.{bit_and, and_mask}
use lib.ListN.{length, get_or, set}
use lib.Pow.{pow_pos, pow-add, high, low, split, mod-pow-add, shl_exact, shr-shr}
use lib.Seq.{get_or-set_same, get_or-set_other, set-set, set-get_or, set_out}
use Rattle.ec20.specs.Bits.{bit_of, bit_at, byte_with, with_bit, packed, spread}
use Rattle.bits.proofs.Laws.{low_bit, bit-range, spread-other, packed-range, packed-is}

-- ---- bits that are read

regroup : (p q b x y : ℕ) → p + q * x + b * (x * y) ≡ p + (q + b * y) * x
regroup p q b x y =
    let e : b * y * x ≡ b * (x * y) = mul_assoc b y x ∙ ap (λ (n : ℕ). b * n) (mul_comm y x) in
    sym (ap (λ (n : ℕ). p + n) (add-mul q (b * y) x) ∙ omega (arith, e))

-- n bits and m more: the number of the first, and that of the others above it
packed_join : (bs : List ℕ) (i n m : ℕ) → packed bs i (n + m) ≡ packed bs i n + packed bs (i + n) m * 2 ^ n
unfolding packed
packed_join bs i n zero = ap (packed bs i) {x = n + 0} {y = n} (omega arith) ∙ omega arith
packed_join bs i n (suc m) =
    ap (packed bs i) {x = n + suc m} {y = suc (n + m)} (omega arith)
    ∙ ap₂ (λ (x y : ℕ). x + bit_at bs (i + (n + m)) * y) (packed_join bs i n m) (pow-add 2 n m)
    ∙ ap (λ (k : ℕ). packed bs i n + packed bs (i + n) m * 2 ^ n + bit_at bs k * (2 ^ n * 2 ^ m)) {x = i + (n + m)} {y = i + n + m} (omega arith)
    ∙ regroup (packed bs i n) (packed bs (i + n) m) (bit_at bs (i + n + m)) (2 ^ n) (2 ^ m)

-- bit j of the number that n bits make
pub packed-bit : (bs : List ℕ) (i n j : ℕ) → j < n → bit_of (packed bs i n) j ≡ bit_at bs (i + j)
unfolding packed bit_at
packed-bit bs i n j l =
    let d : ℕ = n - j - 1 in
    let h : bit_at bs (i + j) < 2 = bit-range (get_or bs ((i + j) / 8) 0) ((i + j) % 8) in
    ap (λ (k : ℕ). bit_of (packed bs i k) j) {x = n} {y = j + (1 + d)} (omega arith)
    ∙ ap (λ (x : ℕ). x / 2 ^ j % 2) (packed_join bs i j (1 + d) ∙ omega arith)
    ∙ ap (λ (x : ℕ). x % 2) (high (packed bs (i + j) (1 + d)) j (packed-range bs i j) ∙ packed_join bs (i + j) 1 d)
    ∙ ap (λ (k : ℕ). (0 + bit_at bs k * 1 + packed bs (i + j + 1) d * 2) % 2) {x = i + j + 0} {y = i + j} (omega arith)
    ∙ omega (arith, h)

-- the n bits from bit s of m on are a part of the number that the m make
pub packed-part : (bs : List ℕ) (i m s n : ℕ) → s + n ≤ m → packed bs (i + s) n ≡ packed bs i m / 2 ^ s % 2 ^ n
packed-part bs i m s n l =
    packed-is bs (i + s) (packed bs i m / 2 ^ s) n
    (λ j h. ap (bit_at bs) {x = i + s + j} {y = i + (s + j)} (omega arith) ∙ sym (packed-bit bs i m (s + j) (omega arith)) ∙ ap (λ (x : ℕ). x % 2) (sym (shr-shr (packed bs i m) s j)))

-- bit t of byte k
bit-inside : (bs : List ℕ) (k t : ℕ) → t < 8 → bit_at bs (8 * k + t) ≡ bit_of (get_or bs k 0) t
unfolding bit_at
bit-inside bs k t l = ap₂ (λ (x y : ℕ). bit_of (get_or bs x 0) y) {x = (8 * k + t) / 8} {y = k} (omega arith) (omega arith)

-- the eight bits of byte k are the byte
pub packed_byte : (bs : List ℕ) (k : ℕ) → packed bs (8 * k) 8 ≡ get_or bs k 0 % 256
packed_byte bs k = packed-is bs (8 * k) (get_or bs k 0) 8 (bit-inside bs k)

-- one byte more
pub bytes-more : (bs : List ℕ) (at i : ℕ) → get_or bs (at + i) 0 < 256 → packed bs (8 * at) (8 * i + 8) ≡ packed bs (8 * at) (8 * i) + get_or bs (at + i) 0 * 2 ^ (8 * i)
bytes-more bs at i l =
    packed_join bs (8 * at) (8 * i) 8
    ∙ ap (λ (x : ℕ). packed bs (8 * at) (8 * i) + x * 2 ^ (8 * i))
    (ap (λ (k : ℕ). packed bs k 8) {x = 8 * at + 8 * i} {y = 8 * (at + i)} (omega arith) ∙ packed_byte bs (at + i) ∙ mod-eq_of_lt l)

-- ---- bits that are put

module _ (bs : List ℕ) (i : ℕ) where
  -- n bits and m more: first these, then those above them
  spread_join : (n m v : ℕ) → spread bs i (n + m) v ≡ spread (spread bs i n v) (i + n) m (v / 2 ^ n)
  unfolding spread
  spread_join n zero v = ap (λ (k : ℕ). spread bs i k v) {x = n + 0} {y = n} (omega arith)
  spread_join n (suc m) v =
      ap (λ (k : ℕ). spread bs i k v) {x = n + suc m} {y = suc (n + m)} (omega arith)
      ∙ ap (λ (t : List ℕ). with_bit t (i + (n + m)) (bit_of v (n + m))) (spread_join n m v)
      ∙ ap₂ (λ (k b : ℕ). with_bit (spread (spread bs i n v) (i + n) m (v / 2 ^ n)) k b) {x = i + (n + m)} {y = i + n + m} (omega arith)
      (ap (λ (x : ℕ). x % 2) (sym (shr-shr v n m)))

  -- they go by the low bits of the number alone
  spread_same : (n u v : ℕ) → ((j : ℕ) → j < n → bit_of u j ≡ bit_of v j) → spread bs i n u ≡ spread bs i n v
  unfolding spread
  spread_same zero u v h = refl
  spread_same (suc n) u v h =
      ap₂ (λ (t : List ℕ) (b : ℕ). with_bit t (i + n) b) (spread_same n u v (λ j l. h j (omega arith))) (h n (omega arith))

  -- a byte that they have not come to is as it was
  spread-later : (n v k : ℕ) → i + n ≤ 8 * k → get_or (spread bs i n v) k 0 ≡ get_or bs k 0
  unfolding spread with_bit
  spread-later zero v k l = refl
  spread-later (suc n) v k l = get_or-set_other (spread bs i n v) ((i + n) / 8) k _ 0 (λ e. omega arith) ∙ spread-later n v k (omega arith)

  -- those past the table's end are not put
  spread-out : (n v : ℕ) → 8 * length bs ≤ i → spread bs i n v ≡ bs
  unfolding spread with_bit
  spread-out zero v l = refl
  spread-out (suc n) v l =
      ap (λ (t : List ℕ). with_bit t (i + n) (bit_of v n)) (spread-out n v l) ∙ set_out bs ((i + n) / 8) _ (omega arith)

-- a bit that is put where it stands changes nothing
byte-own : (x j : ℕ) → byte_with x j (bit_of x j) ≡ x
unfolding byte_with
byte-own x j = ap (λ (y : ℕ). y * 2 ^ j + x % 2 ^ j) {y = x / 2 ^ j} (omega arith) ∙ split x j

bit-own : (bs : List ℕ) (k : ℕ) → with_bit bs k (bit_at bs k) ≡ bs
unfolding with_bit bit_at
bit-own bs k = ap (set bs (k / 8)) (byte-own (get_or bs (k / 8) 0) (k % 8)) ∙ set-get_or bs (k / 8) 0

-- nor do n bits
spread-own : (bs : List ℕ) (i n v : ℕ) → ((j : ℕ) → j < n → bit_of v j ≡ bit_at bs (i + j)) → spread bs i n v ≡ bs
unfolding spread
spread-own bs i zero v h = refl
spread-own bs i (suc n) v h =
    ap₂ (λ (t : List ℕ) (b : ℕ). with_bit t (i + n) b) (spread-own bs i n v (λ j l. h j (omega arith))) (h n (omega arith)) ∙ bit-own bs (i + n)

-- ---- a number with other bits in it

-- the number x with the n bits v from bit s on: what stands above them, then these, then what stands below
abbrev pub with_run : ℕ → ℕ → ℕ → ℕ → ℕ
with_run x s n v = x / 2 ^ (s + n) * 2 ^ (s + n) + (v * 2 ^ s + x % 2 ^ s)

-- these and what stands below them are below what stands above
pub run-low : (x s n v : ℕ) → v < 2 ^ n → v * 2 ^ s + x % 2 ^ s < 2 ^ (s + n)
run-low x s n v l =
    let d : v * 2 ^ s + x % 2 ^ s < 2 ^ n * 2 ^ s = digits_lt l (mod-lt x (pow_pos s)) in
    omega (arith, d, pow-add 2 s n, mul_comm (2 ^ s) (2 ^ n))

-- the same by the two edges
run-form : (x s n v : ℕ) → with_run x s n v ≡ (x / 2 ^ (s + n) * 2 ^ n + v) * 2 ^ s + x % 2 ^ s
run-form x s n v =
    let q : ℕ = x / 2 ^ (s + n) in
    let e : q * 2 ^ n * 2 ^ s ≡ q * 2 ^ (s + n) = mul_assoc q (2 ^ n) (2 ^ s) ∙ ap (λ (p : ℕ). q * p) (mul_comm (2 ^ n) (2 ^ s) ∙ sym (pow-add 2 s n)) in
    sym (ap (λ (y : ℕ). y + x % 2 ^ s) (add-mul (q * 2 ^ n) v (2 ^ s)) ∙ omega (arith, e))

run-rest : (x s n v : ℕ) → with_run x s n v % 2 ^ s ≡ x % 2 ^ s
run-rest x s n v = ap (λ (y : ℕ). y % 2 ^ s) (run-form x s n v) ∙ low (x / 2 ^ (s + n) * 2 ^ n + v) s (mod-lt x (pow_pos s))

run-from : (x s n v : ℕ) → with_run x s n v / 2 ^ s ≡ x / 2 ^ (s + n) * 2 ^ n + v
run-from x s n v = ap (λ (y : ℕ). y / 2 ^ s) (run-form x s n v) ∙ high (x / 2 ^ (s + n) * 2 ^ n + v) s (mod-lt x (pow_pos s))

-- numbers that agree in n digits agree in n bits
same_bits : (x y n : ℕ) → x % 2 ^ n ≡ y % 2 ^ n → (j : ℕ) → j < n → bit_of x j ≡ bit_of y j
same_bits x y n e j l =
    let d : ℕ = n - j - 1 in
    sym (low_bit x j d)
    ∙ ap (λ (k : ℕ). bit_of (x % 2 ^ k) j) {x = (d + 1) + j} {y = n} (omega arith)
    ∙ ap (λ (z : ℕ). bit_of z j) e
    ∙ ap (λ (k : ℕ). bit_of (y % 2 ^ k) j) {x = n} {y = (d + 1) + j} (omega arith)
    ∙ low_bit y j d

-- n bits of m that are put back with others for them: these alone are put
pub spread-run : (bs : List ℕ) (i m s n v : ℕ) → s + n ≤ m → spread bs i m (with_run (packed bs i m) s n (v % 2 ^ n)) ≡ spread bs (i + s) n v
spread-run bs i m s n v l =
    let x : ℕ = packed bs i m in
    let w : ℕ = with_run x s n (v % 2 ^ n) in
    let r : ℕ = m - (s + n) in
    let f = run-from x s n (v % 2 ^ n) in
    let h = mod-lt v (pow_pos n) in
    let mid : w / 2 ^ s % 2 ^ n ≡ v % 2 ^ n = ap (λ (y : ℕ). y % 2 ^ n) f ∙ low (x / 2 ^ (s + n)) n h in
    let top : w / 2 ^ s / 2 ^ n ≡ x / 2 ^ (s + n) = ap (λ (y : ℕ). y / 2 ^ n) f ∙ high (x / 2 ^ (s + n)) n h in
    ap (λ (k : ℕ). spread bs i k w) {x = m} {y = s + (n + r)} (omega arith)
    ∙ spread_join bs i s (n + r) w
    ∙ ap (λ (t : List ℕ). spread t (i + s) (n + r) (w / 2 ^ s))
    (spread-own bs i s w (λ j g. same_bits w x s (run-rest x s n (v % 2 ^ n)) j g ∙ packed-bit bs i m j (omega arith)))
    ∙ spread_join bs (i + s) n r (w / 2 ^ s)
    ∙ ap (λ (t : List ℕ). spread t (i + s + n) r (w / 2 ^ s / 2 ^ n)) (spread_same bs (i + s) n (w / 2 ^ s) v (same_bits (w / 2 ^ s) v n mid))
    ∙ spread-own (spread bs (i + s) n v) (i + s + n) r (w / 2 ^ s / 2 ^ n)
    (λ j g.
    ap (λ (y : ℕ). bit_of y j) top
    ∙ ap (λ (y : ℕ). y % 2) (shr-shr x (s + n) j)
    ∙ packed-bit bs i m (s + n + j) (omega arith)
    ∙ ap (bit_at bs) {x = i + (s + n + j)} {y = i + s + n + j} (omega arith)
    ∙ sym (spread-other bs (i + s) v n (i + s + n + j) (λ o. omega arith)))

-- ---- whole bytes that are put

byte_step : (x v n : ℕ) → byte_with (x / 2 ^ n * 2 ^ n + v % 2 ^ n) n (bit_of v n) ≡ x / 2 ^ suc n * 2 ^ suc n + v % 2 ^ suc n
unfolding byte_with
byte_step x v n =
    let q : ℕ = x / 2 ^ n / 2 in
    let b : ℕ = bit_of v n in
    let h : v % 2 ^ n < 2 ^ n = mod-lt v (pow_pos n) in
    let e1 : (q * 2 + b) * 2 ^ n ≡ q * 2 ^ suc n + b * 2 ^ n = add-mul (q * 2) b (2 ^ n) ∙ ap (λ (y : ℕ). y + b * 2 ^ n) (mul_assoc q 2 (2 ^ n) ∙ ap (λ (y : ℕ). q * y) (mul_comm 2 (2 ^ n) ∙ sym (pow-suc 2 n))) in
    let e2 : v % 2 ^ suc n ≡ b * 2 ^ n + v % 2 ^ n = ap (λ (m : ℕ). v % 2 ^ m) (sym (one-add n)) ∙ mod-pow-add v 1 n in
    let e3 : q ≡ x / 2 ^ suc n = shr-shr x n 1 ∙ ap (λ (m : ℕ). x / 2 ^ m) {x = n + 1} {y = suc n} (omega arith) in
    ap₂ (λ (y z : ℕ). (y / 2 * 2 + b) * 2 ^ n + z) (high (x / 2 ^ n) n h) (low (x / 2 ^ n) n h)
    ∙ omega (arith, e1, e2)
    ∙ ap (λ (y : ℕ). y * 2 ^ suc n + v % 2 ^ suc n) e3

-- the low n bits of a byte
byte_low : (bs : List ℕ) (k v n : ℕ) → k < length bs → n ≤ 8 → spread bs (8 * k) n v ≡ set bs k (get_or bs k 0 / 2 ^ n * 2 ^ n + v % 2 ^ n)
unfolding spread with_bit
byte_low bs k v zero h l = sym (ap (set bs k) {y = get_or bs k 0} (omega arith) ∙ set-get_or bs k 0)
byte_low bs k v (suc n) h l =
    let t : List ℕ = spread bs (8 * k) n v in
    let b : ℕ = bit_of v n in
    ap₂ (λ (d r : ℕ). set t d (byte_with (get_or t d 0) r b)) {x = (8 * k + n) / 8} {y = k} (omega arith) (omega arith)
    ∙ ap (λ (u : List ℕ). set u k (byte_with (get_or u k 0) n b)) (byte_low bs k v n h (omega arith))
    ∙ set-set bs k _ _
    ∙ ap (λ (y : ℕ). set bs k (byte_with y n b)) (get_or-set_same bs k _ 0 h)
    ∙ ap (set bs k) (byte_step (get_or bs k 0) v n)

-- eight bits of a byte are one store, which does nothing outside the table
pub spread-byte : (bs : List ℕ) (k v : ℕ) → get_or bs k 0 < 256 → spread bs (8 * k) 8 v ≡ set bs k (v % 256)
spread-byte bs k v l =
    elim (dec_lt k (length bs)) [
      | yes h ↦ byte_low bs k v 8 h (omega arith) ∙ ap (set bs k) (omega arith)
      | no h ↦ spread-out bs (8 * k) 8 v (omega arith) ∙ sym (set_out bs k (v % 256) (omega arith))
    ]

-- n bits inside a byte are one store
pub spread-inside : (bs : List ℕ) (k s n v : ℕ) → get_or bs k 0 < 256 → s + n ≤ 8 → spread bs (8 * k + s) n v ≡ set bs k (with_run (get_or bs k 0) s n (v % 2 ^ n) % 256)
spread-inside bs k s n v h l =
    sym (spread-run bs (8 * k) 8 s n v l)
    ∙ ap (λ (x : ℕ). spread bs (8 * k) 8 (with_run x s n (v % 2 ^ n))) (packed_byte bs k ∙ mod-eq_of_lt h)
    ∙ spread-byte bs k _ h

-- one byte more
pub put-more : (bs : List ℕ) (at i v : ℕ) → get_or bs (at + i) 0 < 256 → spread bs (8 * at) (8 * i + 8) v ≡ set (spread bs (8 * at) (8 * i) v) (at + i) (v / 2 ^ (8 * i) % 256)
put-more bs at i v l =
    let t : List ℕ = spread bs (8 * at) (8 * i) v in
    spread_join bs (8 * at) (8 * i) 8 v
    ∙ ap (λ (k : ℕ). spread t k 8 (v / 2 ^ (8 * i))) {x = 8 * at + 8 * i} {y = 8 * (at + i)} (omega arith)
    ∙ spread-byte t (at + i) (v / 2 ^ (8 * i)) (omega (arith, l, spread-later bs (8 * at) (8 * i) v (at + i) (omega arith)))

-- ---- shifts and masks of w bits

module _ (w : ℕ) where
  -- 1 shifted by s
  one_up : (s : ℕ) → s < w → (1 * 2 ^ s) % 2 ^ w ≡ 2 ^ s
  one_up s l = shl_exact {a = 1} 1 s w (omega arith) (omega arith) ∙ omega arith

  -- so there is 1 to take away
  pub one-there : (s : ℕ) → s < w → 1 ≤ (1 * 2 ^ s) % 2 ^ w
  one-there s l = omega (arith, one_up s l, pow_pos s)

  -- a mask of s bits
  pub masked : (x s : ℕ) → s < w → bit_and x ((1 * 2 ^ s) % 2 ^ w - 1) ≡ x % 2 ^ s
  masked x s l = ap (λ (p : ℕ). bit_and x (p - 1)) (one_up s l) ∙ and_mask x s

  -- what stands from bit s on, there again
  pub top-exact : (x s : ℕ) → x < 2 ^ w → (x / 2 ^ s * 2 ^ s) % 2 ^ w ≡ x / 2 ^ s * 2 ^ s
  top-exact x s l = let d = div-mul-le_self x (2 ^ s) in mod-eq_of_lt (omega (arith, l, d))
