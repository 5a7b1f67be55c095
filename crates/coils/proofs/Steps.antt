-- Coils of a request that are taken a run at a time, and bytes of a reply that are read one at a time. Assumes nothing.
use Prim.Native.Nat.{ℕ, zero, suc, ◌+◌, ◌*◌, ◌-◌, ◌/◌, ◌%◌, ◌^◌, ◌<◌, ◌≤◌, min}
use mathlib.Core.List.{List}
use mathlib.Core.Path.{◌≡◌, refl, sym, ap, ap₂, ◌∙◌}
use native.Mathlib.Nat.{mod-eq_of_lt}
use native.Mathlib.Numerals.{add-one}
use native.Mathlib.Omega.{arith}
use lib.ListN.{length, get_or, set}
use lib.Seq.{get_or-set_other}
use Rattle.ec20.specs.Bits.{bit_of, bit_at, with_bit, packed, spread}
use Rattle.bits.proofs.Laws.{packed-range}
use Rattle.ec20.specs.Buffer.{over}
use Rattle.modbus.specs.Exceptions.{bytes_of}
use Rattle.modbus.specs.Replies.{coil_byte, coil_bytes}
use Rattle.modbus.specs.Writes.{coils_taken}
use Rattle.ec20.proofs.BufferLaws.{over_none, over-more}
use Rattle.modbus.proofs.Lengths.{coils-told}
use Rattle.coils.specs.Moved.{bytes_moved}
use Rattle.bits.proofs.Bytes.{packed-bit, with_run, spread-byte, spread-inside}
use Rattle.coils.proofs.Shifts.{run-lt}

-- ---- moved

-- n bits inside a byte are one store
pub few-moved : (t : List ℕ) (at n v : ℕ) → get_or t (at / 8) 0 < 256 → at % 8 + n ≤ 8 → v < 2 ^ n → set t (at / 8) (with_run (get_or t (at / 8) 0) (at % 8) n v) ≡ spread t at n v
few-moved t at n v h l g =
    let x : ℕ = get_or t (at / 8) 0 in
    ap (set t (at / 8)) (sym (ap (λ (w : ℕ). with_run x (at % 8) n w % 256) (mod-eq_of_lt g) ∙ mod-eq_of_lt (run-lt x (at % 8) n v h l g)))
    ∙ sym (spread-inside t (at / 8) (at % 8) n v h l)
    ∙ ap (λ (j : ℕ). spread t j n v) {x = 8 * (at / 8) + at % 8} {y = at} (omega arith)

-- one byte more
pub byte-moved : (t r : List ℕ) (at : ℕ) (f : List ℕ) (i j v : ℕ) → r ≡ bytes_moved t at f i j → v ≡ packed f (i + 8 * j) 8 → set r (at + j) v ≡ bytes_moved t at f i (j + 1)
unfolding bytes_moved
byte-moved t r at f i j v e g = rw (add-one j) (ap₂ (λ (x : List ℕ) (y : ℕ). set x (at + j) y) e g)

-- ---- written

module _ (m : List ℕ) (a : ℕ) (f : List ℕ) where
  -- a byte that the coils have not come to is as it was
  pub taken-later : (n k : ℕ) → a + n ≤ 8 * k → get_or (coils_taken m a f n) k 0 ≡ get_or m k 0
  unfolding coils_taken with_bit
  taken-later zero k l = refl
  taken-later (suc n) k l = get_or-set_other (coils_taken m a f n) ((a + n) / 8) k _ 0 (λ e. omega arith) ∙ taken-later n k (omega arith)

  -- n coils more are a run of bits that is put
  pub taken_more : (i n v : ℕ) → ((j : ℕ) → j < n → bit_of v j ≡ bit_at f (56 + i + j)) → coils_taken m a f (i + n) ≡ spread (coils_taken m a f i) (a + i) n v
  unfolding coils_taken spread
  taken_more i zero v h = ap (coils_taken m a f) {x = i + 0} {y = i} (omega arith)
  taken_more i (suc n) v h =
      ap (coils_taken m a f) {x = i + suc n} {y = suc (i + n)} (omega arith)
      ∙ ap (λ (t : List ℕ). with_bit t (a + (i + n)) (bit_at f (56 + (i + n)))) (taken_more i n v (λ j l. h j (omega arith)))
      ∙ ap₂ (λ (x b : ℕ). with_bit (spread (coils_taken m a f i) (a + i) n v) x b) {x = a + (i + n)} {y = a + i + n} (omega arith)
      (ap (bit_at f) {x = 56 + (i + n)} {y = 56 + i + n} (omega arith) ∙ sym (h n (omega arith)))

  -- n coils more, as the number that the request's bits make
  pub taken-run : (i n : ℕ) → coils_taken m a f (i + n) ≡ spread (coils_taken m a f i) (a + i) n (packed f (56 + i) n)
  taken-run i n = taken_more i n (packed f (56 + i) n) (packed-bit f (56 + i) n)

  -- eight coils more, of which the first is a byte's first, are that byte
  pub taken-byte : (i k : ℕ) → a + i ≡ 8 * k → get_or m k 0 < 256 → coils_taken m a f (i + 8) ≡ set (coils_taken m a f i) k (packed f (56 + i) 8)
  taken-byte i k e h =
      let t : List ℕ = coils_taken m a f i in
      let v : ℕ = packed f (56 + i) 8 in
      let r = packed-range f (56 + i) 8 in
      let x = taken-later i k (omega arith) in
      taken-run i 8
      ∙ ap (λ (j : ℕ). spread t j 8 v) {x = a + i} {y = 8 * k} (omega arith)
      ∙ spread-byte t k v (omega (arith, h, x))
      ∙ ap (set t k) (mod-eq_of_lt r)

-- 8 * k coils more, of which the first is a byte's first, are k whole bytes
pub taken-bytes : (m b : List ℕ) (a : ℕ) (f : List ℕ) (i k : ℕ) → b ≡ coils_taken m a f i → (a + i) % 8 ≡ 0 → ((j : ℕ) → get_or b j 0 < 256) → bytes_moved b ((a + i) / 8) f (56 + i) k ≡ coils_taken m a f (i + 8 * k)
unfolding bytes_moved
taken-bytes m b a f i zero e z h = e ∙ ap (coils_taken m a f) {x = i} {y = i + 8 * 0} (omega arith)
taken-bytes m b a f i (suc k) e z h =
    let at : ℕ = (a + i) / 8 + k in
    let same : get_or b at 0 ≡ get_or m at 0 = ap (λ (x : List ℕ). get_or x at 0) e ∙ taken-later m a f i at (omega arith) in
    ap (λ (t : List ℕ). set t at (packed f (56 + i + 8 * k) 8)) (taken-bytes m b a f i k e z h)
    ∙ ap (λ (j : ℕ). set (coils_taken m a f (i + 8 * k)) at (packed f j 8)) {x = 56 + i + 8 * k} {y = 56 + (i + 8 * k)} (omega arith)
    ∙ sym (taken-byte m a f (i + 8 * k) at (omega arith) (omega (arith, same, h at)))
    ∙ ap (coils_taken m a f) {x = i + 8 * k + 8} {y = i + 8 * suc k} (omega arith)

-- whole bytes, then those that are left
pub taken-on : (m b t u : List ℕ) (a : ℕ) (f : List ℕ) (i k n : ℕ) → b ≡ coils_taken m a f i → (a + i) % 8 ≡ 0 → ((j : ℕ) → get_or b j 0 < 256) → i + 8 * k ≤ n → t ≡ bytes_moved b ((a + i) / 8) f (56 + i) k → u ≡ spread t (a + (i + 8 * k)) (n - (i + 8 * k)) (packed f (56 + (i + 8 * k)) (n - (i + 8 * k))) → u ≡ coils_taken m a f n
taken-on m b t u a f i k n e z h g et eu =
    let j : ℕ = i + 8 * k in
    eu
    ∙ ap (λ (x : List ℕ). spread x (a + j) (n - j) (packed f (56 + j) (n - j))) (et ∙ taken-bytes m b a f i k e z h)
    ∙ sym (taken-run m a f j (n - j))
    ∙ ap (coils_taken m a f) {x = j + (n - j)} {y = n} (omega arith)

-- the first n coils are put
pub taken-first : (m r : List ℕ) (a : ℕ) (f : List ℕ) (n : ℕ) → r ≡ spread m a n (packed f 56 n) → r ≡ coils_taken m a f n
unfolding coils_taken
taken-first m r a f n e =
    e
    ∙ ap (λ (j : ℕ). spread m j n (packed f 56 n)) {x = a} {y = a + 0} (omega arith)
    ∙ sym (taken-run m a f 0 n)
    ∙ ap (coils_taken m a f) {x = 0 + n} {y = n} (omega arith)

-- ---- read

-- one byte more, of the n bits that are left, eight at most
read_more : (m : List ℕ) (a q j n : ℕ) (b : List ℕ) → n ≡ min 8 (q - 8 * j) → 3 + j < length b → set (over 3 (coil_bytes m a q j) b) (3 + j) (packed m (a + 8 * j) n) ≡ over 3 (coil_bytes m a q (suc j)) b
unfolding coil_bytes coil_byte
read_more m a q j n b g l =
    ap (λ (k : ℕ). set (over 3 (coil_bytes m a q j) b) (3 + j) (packed m (a + 8 * j) k)) g
    ∙ over-more 3 (coil_bytes m a q j) b _ (3 + j) (omega (arith, coils-told m a q j)) l

-- k bytes of eight bits
read-bytes : (m : List ℕ) (a q k : ℕ) (b : List ℕ) → 8 * k ≤ q → 3 + k ≤ length b → bytes_moved b 3 m a k ≡ over 3 (coil_bytes m a q k) b
unfolding bytes_moved coil_bytes
read-bytes m a q zero b l h = sym (over_none 3 b)
read-bytes m a q (suc k) b l h =
    ap (λ (t : List ℕ). set t (3 + k) (packed m (a + 8 * k) 8)) (read-bytes m a q k b (omega arith) (omega arith))
    ∙ read_more m a q k 8 b (omega arith) (omega arith)

-- all bytes: the last has what is left
pub read_all : (m : List ℕ) (a q k v : ℕ) (b r : List ℕ) → 8 * k < q → q ≤ 8 * k + 8 → 3 + k < length b → r ≡ bytes_moved b 3 m a k → v ≡ packed m (a + 8 * k) (q - 8 * k) → set r (3 + k) v ≡ over 3 (coil_bytes m a q (bytes_of q)) b
read_all m a q k v b r l h g er ev =
    ap₂ (λ (t : List ℕ) (x : ℕ). set t (3 + k) x) (er ∙ read-bytes m a q k b (omega arith) (omega arith)) ev
    ∙ read_more m a q k (q - 8 * k) b (omega arith) g
    ∙ ap (λ (j : ℕ). over 3 (coil_bytes m a q j) b) {x = suc k} {y = bytes_of q} (omega arith)

-- none are read
pub read_none : (m : List ℕ) (a q : ℕ) (b : List ℕ) → q ≡ 0 → b ≡ over 3 (coil_bytes m a q (bytes_of q)) b
unfolding coil_bytes
read_none m a q b e = sym (ap (λ (j : ℕ). over 3 (coil_bytes m a q j) b) {x = bytes_of q} {y = 0} (omega arith) ∙ over_none 3 b)
