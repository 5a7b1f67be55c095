-- What the code computes by shifts and masks of 16 bits, as the laws of bytes say it. Assumes nothing.
use Prim.Native.Nat.{ℕ, ◌+◌, ◌*◌, ◌-◌, ◌/◌, ◌%◌, ◌^◌, ◌<◌, ◌≤◌}
use mathlib.Core.List.{List}
use mathlib.Core.Path.{◌≡◌, sym, ap, ap₂, subst, ◌∙◌}
use native.Mathlib.Nat.{mod-eq_of_lt}
use native.Mathlib.Omega.{arith}
use lib.Arith.{digits_lt}
use lib.ListN.{get_or}
use lib.Bits.{bit_and}
use lib.Pow.{pow-add, shl_exact, shr_lt, mod-mod-pow}
use Rattle.ec20.specs.Bits.{packed}
use Rattle.bits.proofs.Bytes.{packed-part, packed_byte, bytes-more, with_run, run-low, masked, top-exact}

-- n of eight bits
pub masked-byte : (w n : ℕ) → n ≤ 8 → w % 256 % 2 ^ n ≡ w % 2 ^ n
masked-byte w n l = ap (λ (k : ℕ). w % 2 ^ k % 2 ^ n) {x = 8} {y = (8 - n) + n} (omega arith) ∙ mod-mod-pow w (8 - n) n

-- the byte x with the n bits v from bit s on
module _ (x s n v : ℕ) (hx : x < 256) (hs : s + n ≤ 8) (hv : v < 2 ^ n) where
  -- is the sum of three parts
  pub run-code : (x / 2 ^ (s + n) * 2 ^ (s + n)) % 65536 + (v * 2 ^ s) % 65536 + bit_and x ((1 * 2 ^ s) % 65536 - 1) ≡ with_run x s n v
  run-code = omega (arith, top-exact 16 x (s + n) (omega arith), shl_exact {a = v} n s 16 hv (omega arith), masked 16 x s (omega arith))

  -- and a byte
  pub run-lt : with_run x s n v < 256
  run-lt =
      let q : x / 2 ^ (s + n) < 2 ^ (8 - (s + n)) = shr_lt (8 - (s + n)) (s + n) (subst (λ (k : ℕ). x < 2 ^ k) {x = 8} {y = 8 - (s + n) + (s + n)} (omega arith) hx) in
      let d = digits_lt q (run-low x s n v hv) in
      omega (arith, d, sym (pow-add 2 (8 - (s + n)) (s + n)) ∙ ap (λ (k : ℕ). 2 ^ k) {y = 8} (omega arith))

-- n bits from bit s of byte k on, which may reach into the next byte
packed-across : (bs : List ℕ) (k s n : ℕ) → get_or bs k 0 < 256 → get_or bs (k + 1) 0 < 256 → s + n ≤ 16 → packed bs (8 * k + s) n ≡ (get_or bs k 0 + get_or bs (k + 1) 0 * 256) / 2 ^ s % 2 ^ n
packed-across bs k s n hx hy l =
    packed-part bs (8 * k) 16 s n l
    ∙ ap (λ (z : ℕ). z / 2 ^ s % 2 ^ n) (bytes-more bs k 1 hy ∙ ap (λ (z : ℕ). z + get_or bs (k + 1) 0 * 256) (packed_byte bs k ∙ mod-eq_of_lt hx))

-- n bits from number i on, of the byte that holds the first and of the next
pub few-code : (bs : List ℕ) (i n x y v : ℕ) → n ≤ 8 → x ≡ get_or bs (i / 8) 0 → y ≡ get_or bs (i / 8 + 1) 0 → x < 256 → y < 256 → v ≡ (x + y * 256) / 2 ^ (i % 8) % 256 → bit_and v ((1 * 2 ^ n) % 65536 - 1) ≡ packed bs i n
few-code bs i n x y v l ex ey hx hy ev =
    masked 16 v n (omega arith)
    ∙ ap (λ (z : ℕ). z % 2 ^ n) ev
    ∙ masked-byte ((x + y * 256) / 2 ^ (i % 8)) n l
    ∙ ap₂ (λ (z t : ℕ). (z + t * 256) / 2 ^ (i % 8) % 2 ^ n) ex ey
    ∙ sym (packed-across bs (i / 8) (i % 8) n (omega (arith, ex, hx)) (omega (arith, ey, hy)) (omega arith))
    ∙ ap (λ (k : ℕ). packed bs k n) {x = 8 * (i / 8) + i % 8} {y = i} (omega arith)

-- eight bits from number i on, which is bit s of byte k
pub across-code : (bs : List ℕ) (i k s v : ℕ) → i ≡ 8 * k + s → s < 8 → get_or bs k 0 < 256 → get_or bs (k + 1) 0 < 256 → v ≡ (get_or bs k 0 + get_or bs (k + 1) 0 * 256) / 2 ^ s % 256 → v ≡ packed bs i 8
across-code bs i k s v e l hx hy ev = ev ∙ sym (packed-across bs k s 8 hx hy (omega arith)) ∙ ap (λ (n : ℕ). packed bs n 8) (sym e)
