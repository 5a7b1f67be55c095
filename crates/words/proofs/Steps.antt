-- What the code computes, as the definitions say it. Assumes nothing.
use mathlib.Core.Path.{◌≡◌, refl, sym, ap, ap₂, ◌∙◌}
use mathlib.Core.List.{List}
use Prim.Native.Nat.{ℕ, ◌+◌, ◌*◌, ◌/◌, ◌%◌, ◌^◌, ◌<◌}
use lib.Dec.{lit<}
use lib.IntN.{ℤ, pos, ◌+ℤ◌}
use lib.Signed.{mag}
use mir.Syntax.{w16, w64}
use mir.Val.{to_z, of_z}
use Rattle.ec20.specs.Numbers.{low, signed}
use Rattle.ec20.specs.Registers.{word_at, pair_at, high_word, low_word}
use Rattle.ints.proofs.Parts.{said}
use Rattle.ints.proofs.TwosLaws.{low-more}
use Rattle.words.proofs.Laws.{high-word-range, low-word-range, pair-range}

-- 2 ^ 32 added to a number of 32 bits:
-- its low bits are those of the number, for each m that divides 2 ^ 32
pub raised-low : (m k n : ℕ) {x z : ℤ} → 0 < m → k * m ≡ 4294967296 → pos n ≡ x +ℤ pos 4294967296 → x ≡ z → n % m ≡ low m z
raised-low m k n {x} {z} h e q same = ap (low m) (q ∙ ap (λ (j : ℕ). x +ℤ pos j) (sym e)) ∙ low-more m x k h ∙ ap (low m) same

-- z, which a call answers and which is handed on, is v, and is in the range from -H to H - 1
abbrev pub Told : ℕ → ℤ → ℤ → Type 0
Told H z v = (to_z w64 (of_z w64 z) ≡ v) × (mag (to_z w64 (of_z w64 z)) < H)

pub told : (H : ℕ) {z v : ℤ} → mag z < 2 ^ 63 → z ≡ v → mag v < H → Told H z v
told H {z} {v} ok e l = let s : to_z w64 (of_z w64 z) ≡ v = said w64 ok e in (s, rw s l)

-- a word that is read of the table and widened
pub word_read : (d : List ℤ) (i : ℕ) {z : ℤ} → mag z < 2 ^ 63 → mag (word_at d i) < 2 ^ 15 → z ≡ to_z w16 (of_z w16 (word_at d i)) → Told (2 ^ 15) z (word_at d i)
word_read d i ok fits e = told 32768 ok (e ∙ said w16 {z = word_at d i} fits refl) fits

-- the number that two words x and y make, of which n and k have the bits
pub pair_read : (d : List ℤ) (i : ℕ) (n k : ℕ) {x y z : ℤ} → pos n ≡ x +ℤ pos 4294967296 → x ≡ word_at d i → pos k ≡ y +ℤ pos 4294967296 → y ≡ word_at d (i + 1)
    → mag z < 2 ^ 63 → z ≡ signed 2147483648 (n % 65536 * 65536 + k % 65536) → Told (2 ^ 31) z (pair_at d i)
unfolding pair_at
pair_read d i n k en ex ek ey ok e =
    told 2147483648 ok
    (e ∙ ap₂ (λ (a b : ℕ). signed 2147483648 (a * 65536 + b)) (raised-low 65536 65536 n (lit< tt) refl en ex) (raised-low 65536 65536 k (lit< tt) refl ek ey))
    (pair-range d i)

-- the two words of v, of which n has the bits
module _ (n : ℕ) {x v z : ℤ} (en : pos n ≡ x +ℤ pos 4294967296) (ev : x ≡ v) (ok : mag z < 2 ^ 63) where
  pub high-of : z ≡ signed 32768 (n % 4294967296 / 65536) → Told (2 ^ 15) z (high_word v)
  unfolding high_word
  high-of e = told 32768 ok (e ∙ ap (λ (u : ℕ). signed 32768 (u / 65536)) (raised-low 4294967296 1 n (lit< tt) refl en ev)) (high-word-range v)

  pub low_of : z ≡ signed 32768 (n % 4294967296 % 65536) → Told (2 ^ 15) z (low_word v)
  unfolding low_word
  low_of e = told 32768 ok (e ∙ ap (λ (u : ℕ). signed 32768 (u % 65536)) (raised-low 4294967296 1 n (lit< tt) refl en ev)) (low-word-range v)
