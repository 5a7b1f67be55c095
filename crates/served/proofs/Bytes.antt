-- What is written reads back, byte by byte. Assumes nothing.
use Prim.Native.Nat.{ℕ, zero, suc, ◌+◌, ◌-◌, ◌*◌, ◌/◌, ◌%◌, ◌^◌, ◌≤◌, ◌<◌, min}
use mathlib.Core.List.{List, [], ◌∷◌, ◌++◌}
use mathlib.Core.Path.{◌≡◌, refl, sym, ap, ap₂, ◌∙◌}
use native.Mathlib.Nat.{min-le_right}
use native.Mathlib.Omega.{arith}
use lib.Arith.{digits_div, digits_mod}
use lib.IntN.{ℤ}
use lib.ListN.{length, take, drop, length-drop}
use lib.Seq.{take-suc, get_or-drop}
use Rattle.ec20.specs.Bits.{bit_at, packed}
use Rattle.ec20.specs.File.{byte_at}
use Rattle.ec20.specs.Numbers.{low}
use Rattle.ec20.specs.Registers.{word_at}
use Rattle.ints.proofs.TwosLaws.{low_signed}
use Rattle.ec20.proofs.BufferLaws.{append_assoc}
use Rattle.modbus.specs.Frame.{number_in}
use Rattle.modbus.specs.Replies.{coil_byte, coil_bytes, register_bytes}
use Rattle.modbus.specs.Writes.{word_of}

-- ---- registers

module _ (f : List ℕ) (bytes : (i : ℕ) → byte_at f i < 256) where
  number_small : (i : ℕ) → number_in f i < 65536
  unfolding number_in
  number_small i = omega (arith, bytes i, bytes (i + 1))

  -- the word of two bytes has these bytes
  word-bits : (i : ℕ) → low 65536 (word_of (number_in f i)) ≡ number_in f i
  word-bits i = low_signed 32768 (number_in f i) (number_small i)

  word-high : (i : ℕ) → low 65536 (word_of (number_in f i)) / 256 ≡ byte_at f i
  unfolding number_in
  word-high i = ap (λ (u : ℕ). u / 256) (word-bits i) ∙ digits_div (byte_at f i) (bytes (i + 1))

  word_low : (i : ℕ) → low 65536 (word_of (number_in f i)) % 256 ≡ byte_at f (i + 1)
  unfolding number_in
  word_low i = ap (λ (u : ℕ). u % 256) (word-bits i) ∙ digits_mod (byte_at f i) (bytes (i + 1))

  -- two bytes more of the request, from byte s on
  pub two-more : (s n : ℕ) → s + (n + 2) ≤ length f → take (n + 2) (drop s f) ≡ take n (drop s f) ++ (byte_at f (s + n) ∷ byte_at f (s + n + 1) ∷ [])
  two-more s n l =
      let e : length (drop s f) ≡ length f - s = length-drop s f in
      ap (λ (k : ℕ). take k (drop s f)) {x = n + 2} {y = suc (suc n)} (omega arith)
      ∙ take-suc (drop s f) (suc n) 0 (omega arith)
      ∙ ap₂ (λ (x : List ℕ) (y : ℕ). x ++ (y ∷ [])) (take-suc (drop s f) n 0 (omega arith) ∙ ap (λ (y : ℕ). take n (drop s f) ++ (y ∷ [])) (get_or-drop s f n 0)) (get_or-drop s f (suc n) 0 ∙ ap (byte_at f) {x = s + suc n} {y = s + n + 1} (omega arith))
      ∙ append_assoc (take n (drop s f)) (byte_at f (s + n) ∷ []) (byte_at f (s + n + 1) ∷ [])

  -- words that are the numbers of the request from byte s on are told as its bytes
  pub told_back : (d : List ℤ) (a s n : ℕ) → s + 2 * n ≤ length f → ((j : ℕ) → j < n → word_at d (a + j) ≡ word_of (number_in f (s + 2 * j)))
      → register_bytes d a n ≡ take (2 * n) (drop s f)
  unfolding register_bytes
  told_back d a s zero l h = refl
  told_back d a s (suc n) l h =
      let w = ap (low 65536) (h n (omega arith)) in
      ap₂ (λ (x y : List ℕ). x ++ y) (told_back d a s n (omega arith) (λ j b. h j (omega arith)))
      (ap₂ (λ (x y : ℕ). x ∷ y ∷ []) (ap (λ (u : ℕ). u / 256) w ∙ word-high (s + 2 * n)) (ap (λ (u : ℕ). u % 256) w ∙ word_low (s + 2 * n)))
      ∙ sym (two-more s (2 * n) (omega arith))
      ∙ ap (λ (k : ℕ). take k (drop s f)) {x = 2 * n + 2} {y = 2 * suc n} (omega arith)

-- ---- coils

packed_alike : (bs cs : List ℕ) (i k n : ℕ) → ((j : ℕ) → j < n → bit_at bs (i + j) ≡ bit_at cs (k + j)) → packed bs i n ≡ packed cs k n
unfolding packed
packed_alike bs cs i k zero h = refl
packed_alike bs cs i k (suc n) h = ap₂ (λ (x y : ℕ). x + y * 2 ^ n) (packed_alike bs cs i k n (λ j l. h j (omega arith))) (h n (omega arith))

-- bits that are alike are told alike
pub bits_back : (bs cs : List ℕ) (a k q : ℕ) → ((j : ℕ) → j < q → bit_at bs (a + j) ≡ bit_at cs (k + j)) → (n : ℕ) → coil_bytes bs a q n ≡ coil_bytes cs k q n
unfolding coil_bytes coil_byte
bits_back bs cs a k q h zero = refl
bits_back bs cs a k q h (suc n) =
    ap₂ (λ (x : List ℕ) (y : ℕ). x ++ (y ∷ [])) (bits_back bs cs a k q h n)
    (packed_alike bs cs (a + 8 * n) (k + 8 * n) (min 8 (q - 8 * n))
    (λ j l.
    let r : min 8 (q - 8 * n) ≤ q - 8 * n = min-le_right 8 (q - 8 * n) in
    ap (bit_at bs) {x = a + 8 * n + j} {y = a + (8 * n + j)} (omega arith) ∙ h (8 * n + j) (omega (arith, r)) ∙ ap (bit_at cs) {x = k + (8 * n + j)} {y = k + 8 * n + j} (omega arith)))
