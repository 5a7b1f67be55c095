-- Words by a test, packed into a number, the first lowest: taken apart at a word, and with one more word marked. Assumes nothing.
use Prim.Native.Nat.{ℕ, zero, suc, ◌+◌, ◌*◌, ◌/◌, ◌%◌, ◌^◌, ◌<◌, ◌≤◌}
use mathlib.Core.Bool.{Bool, true, false}
use mathlib.Core.Path.{◌≡◌, refl, sym, ap, ap₂, ◌∙◌}
use native.Mathlib.Nat.{pow-suc, add-mul, mul_assoc, mul_comm, mul-le-mul_right}
use native.Mathlib.Omega.{arith}
use lib.Arith.{digits_mod, digits_div}
use lib.Pow.{pow-add, high, low}
use Rattle.ec20.proofs.Tests.{one-small}
use Rattle.ec20.specs.Basics.{one_if}
use Rattle.ec20.specs.Bits.{bit_of, byte_with}
use Rattle.ec20.specs.UseMap.{packed_by}

-- n words make a number below 2 ^ n
words-range : (p : ℕ → Bool) (a n : ℕ) → packed_by p a n < 2 ^ n
unfolding packed_by
words-range p a zero = omega arith
words-range p a (suc n) =
    let b : ℕ = one_if (p (a + n)) in
    let l : b < 2 = one-small (p (a + n)) in
    omega (arith, words-range p a n, pow-suc 2 n, mul-le-mul_right {m = b} {n = 1} (2 ^ n) (omega arith))

-- no word: 0
pub words-none : (a n : ℕ) → packed_by (λ i. false) a n ≡ 0
unfolding packed_by
words-none a zero = refl
words-none a (suc n) = ap (λ (x : ℕ). x + 0 * 2 ^ n) (words-none a n) ∙ omega arith

-- the number goes by the words alone
pub words_same : (p q : ℕ → Bool) (a n : ℕ) → ((i : ℕ) → a ≤ i → i < a + n → p i ≡ q i) → packed_by p a n ≡ packed_by q a n
unfolding packed_by
words_same p q a zero h = refl
words_same p q a (suc n) h =
    ap₂ (λ (x : ℕ) (b : Bool). x + one_if b * 2 ^ n) (words_same p q a n (λ i l u. h i l (omega arith))) (h (a + n) (omega arith) (omega arith))

turned : (x y z : ℕ) → x + y + z ≡ x + z + y
turned x y z = omega arith

-- the words from a on, taken apart after k of them
words-split : (p : ℕ → Bool) (a k m : ℕ) → packed_by p a (k + m) ≡ packed_by p (a + k) m * 2 ^ k + packed_by p a k
unfolding packed_by
words-split p a k zero = let e : k + zero ≡ k = omega arith in ap (packed_by p a) e ∙ omega arith
words-split p a k (suc m) =
    let e : k + suc m ≡ suc (k + m) = omega arith in
    let at : a + (k + m) ≡ a + k + m = omega arith in
    let b : ℕ = one_if (p (a + k + m)) in
    ap (packed_by p a) e
    ∙ ap₂ (λ (x i : ℕ). x + one_if (p i) * 2 ^ (k + m)) (words-split p a k m) at
    ∙ ap (λ (x : ℕ). packed_by p (a + k) m * 2 ^ k + packed_by p a k + x) (ap (λ (x : ℕ). b * x) (pow-add 2 k m ∙ mul_comm _ _) ∙ sym (mul_assoc b (2 ^ m) (2 ^ k)))
    ∙ turned (packed_by p (a + k) m * 2 ^ k) (packed_by p a k) (b * 2 ^ m * 2 ^ k)
    ∙ ap (λ (x : ℕ). x + packed_by p a k) (sym (add-mul (packed_by p (a + k) m) (b * 2 ^ m) (2 ^ k)))

-- the first word apart
words-first : (p : ℕ → Bool) (a m : ℕ) → packed_by p a (suc m) ≡ packed_by p (a + 1) m * 2 + one_if (p a)
unfolding packed_by
words-first p a m =
    let e : suc m ≡ 1 + m = omega arith in
    let at : a + 0 ≡ a = omega arith in
    ap (packed_by p a) e ∙ words-split p a 1 m ∙ ap (λ (i : ℕ). packed_by p (a + 1) m * 2 + i) (omega arith ∙ ap (λ (i : ℕ). one_if (p i)) at)

-- k words, one, and m more
apart : (p : ℕ → Bool) (a k m : ℕ) → packed_by p a (k + suc m) ≡ (packed_by p (a + k + 1) m * 2 + one_if (p (a + k))) * 2 ^ k + packed_by p a k
apart p a k m = words-split p a k (suc m) ∙ ap (λ (x : ℕ). x * 2 ^ k + packed_by p a k) (words-first p (a + k) m)

module _ (p : ℕ → Bool) (a k m : ℕ) where
  top : packed_by p a (k + suc m) / 2 ^ k ≡ packed_by p (a + k + 1) m * 2 + one_if (p (a + k))
  top = ap (λ (x : ℕ). x / 2 ^ k) (apart p a k m) ∙ high (packed_by p (a + k + 1) m * 2 + one_if (p (a + k))) k (words-range p a k)

  bottom : packed_by p a (k + suc m) % 2 ^ k ≡ packed_by p a k
  bottom = ap (λ (x : ℕ). x % 2 ^ k) (apart p a k m) ∙ low (packed_by p (a + k + 1) m * 2 + one_if (p (a + k))) k (words-range p a k)

  -- bit k is word a + k
  pub word-bit : bit_of (packed_by p a (k + suc m)) k ≡ one_if (p (a + k))
  word-bit = ap (λ (x : ℕ). x % 2) top ∙ digits_mod (packed_by p (a + k + 1) m) (one-small (p (a + k)))

  -- bit k put to 1 marks word a + k
  pub word-put : (q : ℕ → Bool) → q (a + k) ≡ true → ((i : ℕ) → (i ≡ a + k → ⊥) → p i ≡ q i) → byte_with (packed_by p a (k + suc m)) k 1 ≡ packed_by q a (k + suc m)
  unfolding byte_with
  word-put q one same =
      ap₂ (λ (x y : ℕ). (x / 2 * 2 + 1) * 2 ^ k + y) top bottom
      ∙ ap (λ (x : ℕ). (x * 2 + 1) * 2 ^ k + packed_by p a k) (digits_div (packed_by p (a + k + 1) m) (one-small (p (a + k))))
      ∙ ap₂ (λ (x y : ℕ). (x * 2 + 1) * 2 ^ k + y) (words_same p q (a + k + 1) m (λ i l u. same i (λ e. omega arith))) (words_same p q a k (λ i l u. same i (λ e. omega arith)))
      ∙ ap (λ (b : Bool). (packed_by q (a + k + 1) m * 2 + one_if b) * 2 ^ k + packed_by q a k) (sym one)
      ∙ sym (apart q a k m)
