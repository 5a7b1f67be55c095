-- Bytes spelt one after the other. Assumes nothing.
use Rattle.std.proofs.Common.{◌≡◌, ℕ, ◌+◌, ◌-◌, ◌*◌, ◌/◌, ◌%◌, ◌<◌, ◌≤◌, Bool, ◌≢◌, List, length, get_or, set, sym, refl, ap, ◌∙◌, subst, arith, length-set, get_or-set_other, get_or-set_same, ext_get_or, le-ltb, lt-ltb}
use native.Mathlib.Decide.{dec_lt, ℕ_discrete}
use Rattle.ec20.specs.Basics.{pick}
use Rattle.telling.specs.Spelt.{hex_digit, Spelt}

-- a digit
pub hex-low : (v : ℕ) → v < 10 → 48 + v ≡ hex_digit v
hex-low v h = sym (ap (λ (t : Bool). pick t (48 + v) (87 + v)) (lt-ltb v 10 h))

pub hex-high : (v : ℕ) → 10 ≤ v → 97 + (v - 10) ≡ hex_digit v
hex-high v h =
    let e : 97 + (v - 10) ≡ 87 + v = omega arith in
    e ∙ sym (ap (λ (t : Bool). pick t (48 + v) (87 + v)) (le-ltb v 10 h))

-- none is spelt
pub spelt-none : (s b : List ℕ) → Spelt s 0 b b
spelt-none s b =
    record {
      size = refl;
      blank = λ i h. absurd (omega arith);
      high = λ i h. absurd (omega arith);
      low = λ i h. absurd (omega arith);
      past = λ j h. refl;
    }

-- two digits are put: what stands elsewhere stays
module _ (t : List ℕ) (p q x y : ℕ) where
  abbrev both : List ℕ
  both = set (set t p x) q y

  elsewhere : (j : ℕ) → j ≢ p → j ≢ q → get_or both j 0 ≡ get_or t j 0
  elsewhere j a b = get_or-set_other (set t p x) q j y 0 b ∙ get_or-set_other t p j x 0 a

pub spelt-more : (s : List ℕ) (n : ℕ) (b t : List ℕ) → Spelt s n b t → 3 * n + 2 < length b
    → Spelt s (n + 1) b (set (set t (3 * n + 1) (hex_digit (get_or s n 0 / 16))) (3 * n + 2) (hex_digit (get_or s n 0 % 16)))
spelt-more s n b t h l =
    let x = hex_digit (get_or s n 0 / 16) in
    let y = hex_digit (get_or s n 0 % 16) in
    let z : length t ≡ length b = h.size in
    let u : length (set t (3 * n + 1) x) ≡ length t = length-set t (3 * n + 1) x in
    let e = elsewhere t (3 * n + 1) (3 * n + 2) x y in
    let r = both t (3 * n + 1) (3 * n + 2) x y in
    record {
      size = length-set (set t (3 * n + 1) x) (3 * n + 2) y ∙ u ∙ z;
      blank = λ i k. e (3 * i) (omega arith) (omega arith) ∙ elim (ℕ_discrete i n) [
        | yes q ↦ h.past (3 * i) (omega arith)
        | no q ↦ h.blank i (omega arith)
      ];
      high = λ i k. elim (ℕ_discrete i n) [
        | yes q ↦ subst (λ (j : ℕ). get_or r (3 * j + 1) 0 ≡ hex_digit (get_or s j 0 / 16)) (sym q) (get_or-set_other (set t (3 * n + 1) x) (3 * n + 2) (3 * n + 1) y 0 (omega arith) ∙ get_or-set_same t (3 * n + 1) x 0 (omega arith))
        | no q ↦ e (3 * i + 1) (omega arith) (omega arith) ∙ h.high i (omega arith)
      ];
      low = λ i k. elim (ℕ_discrete i n) [
        | yes q ↦ subst (λ (j : ℕ). get_or r (3 * j + 2) 0 ≡ hex_digit (get_or s j 0 % 16)) (sym q) (get_or-set_same (set t (3 * n + 1) x) (3 * n + 2) y 0 (omega arith))
        | no q ↦ e (3 * i + 2) (omega arith) (omega arith) ∙ h.low i (omega arith)
      ];
      past = λ j k. e j (omega arith) (omega arith) ∙ h.past j (omega arith);
    }

-- all are
pub spelt-all : (s : List ℕ) (k n : ℕ) (b t : List ℕ) → k ≤ n → n ≤ k → Spelt s k b t → Spelt s n b t
spelt-all s k n b t l u h = let e : k ≡ n = omega arith in subst (λ (j : ℕ). Spelt s j b t) e h

-- the cells are the whole text: two that spell the same bytes over the same text are equal
pub one-spelt : (s : List ℕ) (n : ℕ) (b t u : List ℕ) → Spelt s n b t → Spelt s n b u → t ≡ u
one-spelt s n b t u x y =
    ext_get_or 0 t u (x.size ∙ sym y.size) (λ j _. elim (dec_lt j (3 * n)) [ yes l ↦ cell j l | no l ↦ x.past j (omega arith) ∙ sym (y.past j (omega arith)) ])
  where
    cell : (j : ℕ) → j < 3 * n → get_or t j 0 ≡ get_or u j 0
    cell j l =
        let i = j / 3 in
        let k : i < n = omega arith in
        elim (ℕ_discrete (j % 3) 0) [
          | yes z ↦ let e : 3 * i ≡ j = omega arith in subst (λ (m : ℕ). get_or t m 0 ≡ get_or u m 0) e (x.blank i k ∙ sym (y.blank i k))
          | no z ↦ elim (ℕ_discrete (j % 3) 1) [
            | yes w ↦ let e : 3 * i + 1 ≡ j = omega arith in subst (λ (m : ℕ). get_or t m 0 ≡ get_or u m 0) e (x.high i k ∙ sym (y.high i k))
            | no w ↦ let e : 3 * i + 2 ≡ j = omega arith in subst (λ (m : ℕ). get_or t m 0 ≡ get_or u m 0) e (x.low i k ∙ sym (y.low i k))
          ]
        ]
