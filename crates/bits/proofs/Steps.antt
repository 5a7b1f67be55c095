-- What the code computes, as the definitions say it. Assumes nothing.
use mathlib.Core.Path.{◌≡◌, refl, sym, ap, ap₂, ◌∙◌}
use mathlib.Core.List.{List, [], ◌∷◌, ◌++◌}
use Prim.Native.Nat.{ℕ, zero, suc, ◌+◌, ◌*◌, ◌-◌, ◌/◌, ◌%◌, ◌^◌, ◌<◌, ◌≤◌}
use native.Mathlib.Nat.{mod-lt, mod-eq_of_lt}
use native.Mathlib.Omega.{arith}
use lib.ListN.{length, get_or, set, take, drop, length-set, get_or-eq_default}
use mir.Syntax.{w64}
use borrow.Rule.Slice.PartMut.{put_mid}
use Rattle.std.specs.Int.{from_le_bytes, to_le_bytes, bytes_low_first}
use Rattle.std.proofs.Common.{append_assoc}
use Rattle.std.proofs.lemmas.List.{drop-drop, drop-set-lt, take_more_set, take-append-drop}
use lib.Pow.{pow_pos, shl_exact}
use lib.Bits.{bit_and, bit_or, and_high, or_shifted, or_shifted_r}
use Rattle.ec20.specs.Bits.{packed, byte_with, spread}
use Rattle.bits.proofs.Laws.{packed-range}
use Rattle.bits.proofs.Bytes.{packed-part, packed_byte, bytes-more, with_run, run-low, spread-run, spread-byte, put-more, masked, top-exact}

-- a number below 8 is one of eight
by8 : (P : ℕ → Type 0) → P 0 → P 1 → P 2 → P 3 → P 4 → P 5 → P 6 → P 7 → (j : ℕ) → j < 8 → P j
by8 P a b c d e f g h zero l = a
by8 P a b c d e f g h (suc zero) l = b
by8 P a b c d e f g h (suc (suc zero)) l = c
by8 P a b c d e f g h (suc (suc (suc zero))) l = d
by8 P a b c d e f g h (suc (suc (suc (suc zero)))) l = e
by8 P a b c d e f g h (suc (suc (suc (suc (suc zero))))) l = f
by8 P a b c d e f g h (suc (suc (suc (suc (suc (suc zero)))))) l = g
by8 P a b c d e f g h (suc (suc (suc (suc (suc (suc (suc zero))))))) l = h
by8 P a b c d e f g h (suc (suc (suc (suc (suc (suc (suc (suc n)))))))) l = absurd (omega arith)

module _ (x j b : ℕ) (hx : x < 256) (hj : j < 8) (hb : b < 2) where
  -- a byte with a bit changed is a byte
  pub byte-lt : byte_with x j b < 256
  unfolding byte_with
  byte-lt =
      by8 (λ (k : ℕ). byte_with x k b < 256) (omega arith) (omega arith) (omega arith) (omega arith) (omega arith) (omega arith) (omega arith) (omega arith) j hj

  -- bit j where it stands in the byte, and b where it is to stand
  bit_in : bit_and x ((1 * 2 ^ j) % 2 ^ 64) ≡ x / 2 ^ j % 2 * 2 ^ j
  bit_in =
      ap (bit_and x) (shl_exact {a = 1} 1 j 64 (omega arith) (omega arith) ∙ one_bit)
      ∙ and_high x 1 j
    where
      one_bit : 1 * 2 ^ j ≡ 2 ^ (1 + j) - 2 ^ j
      one_bit = by8 (λ (k : ℕ). 1 * 2 ^ k ≡ 2 ^ (1 + k) - 2 ^ k) refl refl refl refl refl refl refl refl j hj

  bit-new : (b * 2 ^ j) % 2 ^ 64 ≡ b * 2 ^ j
  bit-new = shl_exact {a = b} 1 j 64 hb (omega arith)

  bit-within : x / 2 ^ j % 2 * 2 ^ j ≤ x
  bit-within =
      by8 (λ (k : ℕ). x / 2 ^ k % 2 * 2 ^ k ≤ x) (omega arith) (omega arith) (omega arith) (omega arith) (omega arith) (omega arith) (omega arith) (omega arith) j hj

  bit-changed : x - x / 2 ^ j % 2 * 2 ^ j + b * 2 ^ j ≡ byte_with x j b
  unfolding byte_with
  bit-changed =
      by8 (λ (k : ℕ). x - x / 2 ^ k % 2 * 2 ^ k + b * 2 ^ k ≡ byte_with x k b) (omega arith) (omega arith) (omega arith) (omega arith) (omega arith) (omega arith) (omega arith) (omega arith) j hj

  -- the byte has its bit j to give
  pub bit-taken : bit_and x ((1 * 2 ^ j) % 2 ^ 64) ≤ x
  bit-taken = rw bit_in bit-within

  -- without its bit j, and with b there, it is the byte with b for bit j
  pub byte-code : x - bit_and x ((1 * 2 ^ j) % 2 ^ 64) + (b * 2 ^ j) % 2 ^ 64 ≡ byte_with x j b
  byte-code = ap₂ (λ (y z : ℕ). x - y + z) bit_in bit-new ∙ bit-changed

-- a row of bytes that is put is put one by one
abbrev puts : List ℕ → ℕ → ℕ → List ℕ → List ℕ
puts l at i [] = l
puts l at i (v ∷ vs) = puts (set l (at + i) v) at (i + 1) vs

one-put : (l : List ℕ) (k v : ℕ) (vs : List ℕ) → k + suc (length vs) ≤ length l → take k l ++ ((v ∷ vs) ++ drop (k + suc (length vs)) l) ≡ take (k + 1) (set l k v) ++ (vs ++ drop (k + 1 + length vs) (set l k v))
one-put l k v vs h =
    let t : take (k + 1) (set l k v) ≡ take k l ++ v ∷ [] = take_more_set l k v (omega arith) in
    let d : drop (k + 1 + length vs) (set l k v) ≡ drop (k + suc (length vs)) l = drop-set-lt (k + 1 + length vs) l k v (omega arith) ∙ ap (λ (n : ℕ). drop n l) (omega arith) in
    rw (t, d) (sym (append_assoc (take k l) (v ∷ []) (vs ++ drop (k + suc (length vs)) l)))

run-put : (l : List ℕ) (at i k : ℕ) (vs : List ℕ) → k ≡ at + i → k + length vs ≤ length l → take k l ++ (vs ++ drop (k + length vs) l) ≡ puts l at i vs
run-put l at i k [] e h = ap (λ (n : ℕ). take k l ++ drop n l) {x = k + 0} {y = k} (omega arith) ∙ take-append-drop k l
run-put l at i k (v ∷ vs) e h =
    one-put l k v vs h
    ∙ run-put (set l k v) at (i + 1) (k + 1) vs (omega arith) (simp length-set (omega arith))
    ∙ ap (λ (j : ℕ). puts (set l j v) at (i + 1) vs) e

-- by whole bytes, from byte `at` on
module _ (bs : List ℕ) (at : ℕ) (h : (k : ℕ) → get_or bs k 0 < 256) where
  -- one byte more is read
  pub read_more : (i : ℕ) {v : ℕ} → i < 8 → v ≡ packed bs (8 * at) (8 * i) → bit_or v ((get_or bs (at + i) 0 * 2 ^ (8 * i)) % 2 ^ 64) ≡ packed bs (8 * at) (8 * i + 8)
  read_more i {v} l e =
      let x : ℕ = get_or bs (at + i) 0 in
      ap (bit_or v) (shl_exact {a = x} 8 (8 * i) 64 (h (at + i)) (omega arith))
      ∙ or_shifted_r x (8 * i) v (omega (arith, e, packed-range bs (8 * at) (8 * i)))
      ∙ omega (arith, e, bytes-more bs at i (h (at + i)))

  -- the first byte is read
  read_first : get_or bs at 0 ≡ packed bs (8 * at) 8
  read_first = sym (packed_byte bs at ∙ mod-eq_of_lt (h at))

  -- eight are read
  pub read-eight : from_le_bytes w64 (get_or bs at 0 ∷ get_or bs (at + 1) 0 ∷ get_or bs (at + 2) 0 ∷ get_or bs (at + 3) 0 ∷ get_or bs (at + 4) 0 ∷ get_or bs (at + 5) 0 ∷ get_or bs (at + 6) 0 ∷ get_or bs (at + 7) 0 ∷ []) ≡ packed bs (8 * at) 64
  read-eight =
      let more = λ (i : ℕ). bytes-more bs at i (h (at + i)) in
      omega (arith, read_first, more 1, more 2, more 3, more 4, more 5, more 6, more 7)

  -- one byte more is put
  pub put_on : (i v : ℕ) {t : List ℕ} → t ≡ spread bs (8 * at) (8 * i) v → set t (at + i) (v / 2 ^ (8 * i) % 256) ≡ spread bs (8 * at) (8 * i + 8) v
  put_on i v e = ap (λ (u : List ℕ). set u (at + i) (v / 2 ^ (8 * i) % 256)) e ∙ sym (put-more bs at i v (h (at + i)))

  -- eight are put
  pub put-eight : (v : ℕ) → at + 8 ≤ length bs → put_mid at 8 bs (to_le_bytes w64 v) ≡ spread bs (8 * at) 64 v
  put-eight v room =
      ap (λ (r : List ℕ). take at bs ++ (to_le_bytes w64 v ++ r)) (drop-drop 8 at bs)
      ∙ one-put bs at (v % 256) (bytes_low_first 1 7 v) room
      ∙ run-put (set bs at (v % 256)) at 1 (at + 1) (bytes_low_first 1 7 v) refl (simp length-set (omega arith))
      ∙ put_on 7 v (put_on 6 v (put_on 5 v (put_on 4 v (put_on 3 v (put_on 2 v (put_on 1 v (sym (spread-byte bs at v (h at)))))))))

-- a byte past the table's end reads as 0
pub read_none : (bs : List ℕ) (at i : ℕ) {v : ℕ} → length bs ≤ at + i → v ≡ packed bs (8 * at) (8 * i) → v ≡ packed bs (8 * at) (8 * i + 8)
read_none bs at i l e =
    let z : get_or bs (at + i) 0 ≡ 0 = get_or-eq_default bs 0 l in
    e ∙ sym (bytes-more bs at i (omega (arith, z)) ∙ ap (λ (x : ℕ). packed bs (8 * at) (8 * i) + x * 2 ^ (8 * i)) z ∙ omega arith)

-- n bits of 64, by a shift and a mask
pub part-code : (bs : List ℕ) (i n x : ℕ) → n ≤ 32 → x ≡ packed bs (8 * (i / 8)) 64 → bit_and (x / 2 ^ (i % 8)) ((1 * 2 ^ n) % 2 ^ 64 - 1) ≡ packed bs i n
part-code bs i n x l e =
    masked 64 (x / 2 ^ (i % 8)) n (omega arith)
    ∙ ap (λ (y : ℕ). y / 2 ^ (i % 8) % 2 ^ n) e
    ∙ sym (packed-part bs (8 * (i / 8)) 64 (i % 8) n (omega arith))
    ∙ ap (λ (k : ℕ). packed bs k n) {x = 8 * (i / 8) + i % 8} {y = i} (omega arith)

-- the three parts of a number with others for n of its bits
abbrev run_code : ℕ → ℕ → ℕ → ℕ → ℕ
run_code x s n v = bit_or ((x / 2 ^ (s + n) * 2 ^ (s + n)) % 2 ^ 64) (bit_or ((bit_and v ((1 * 2 ^ n) % 2 ^ 64 - 1) * 2 ^ s) % 2 ^ 64) (bit_and x ((1 * 2 ^ s) % 2 ^ 64 - 1)))

run-code : (x s n v : ℕ) → x < 2 ^ 64 → s + n < 64 → run_code x s n v ≡ with_run x s n (v % 2 ^ n)
run-code x s n v h l =
    let u : ℕ = v % 2 ^ n in
    let hu : u < 2 ^ n = mod-lt v (pow_pos n) in
    let mid : (bit_and v ((1 * 2 ^ n) % 2 ^ 64 - 1) * 2 ^ s) % 2 ^ 64 ≡ u * 2 ^ s = ap (λ (y : ℕ). (y * 2 ^ s) % 2 ^ 64) (masked 64 v n (omega arith)) ∙ shl_exact {a = u} n s 64 hu (omega arith) in
    ap₂ bit_or (top-exact 64 x (s + n) h) (ap₂ bit_or mid (masked 64 x s (omega arith)) ∙ or_shifted u s (x % 2 ^ s) (mod-lt x (pow_pos s)))
    ∙ or_shifted (x / 2 ^ (s + n)) (s + n) (u * 2 ^ s + x % 2 ^ s) (run-low x s n u hu)

-- n bits of 64 that are put back with others for them
pub spread-code : (bs t : List ℕ) (i n v x : ℕ) → n ≤ 32 → x ≡ packed bs (8 * (i / 8)) 64 → t ≡ spread bs (8 * (i / 8)) 64 (run_code x (i % 8) n v) → t ≡ spread bs i n v
spread-code bs t i n v x l e f =
    let c : run_code x (i % 8) n v ≡ with_run (packed bs (8 * (i / 8)) 64) (i % 8) n (v % 2 ^ n) = run-code x (i % 8) n v (omega (arith, e, packed-range bs (8 * (i / 8)) 64)) (omega arith) ∙ ap (λ (y : ℕ). with_run y (i % 8) n (v % 2 ^ n)) e in
    f
    ∙ ap (spread bs (8 * (i / 8)) 64) c
    ∙ spread-run bs (8 * (i / 8)) 64 (i % 8) n v (omega arith)
    ∙ ap (λ (k : ℕ). spread bs k n v) {x = 8 * (i / 8) + i % 8} {y = i} (omega arith)
