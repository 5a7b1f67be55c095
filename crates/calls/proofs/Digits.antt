-- Numbers by their digits. Assumes nothing.
use Rattle.std.proofs.Common.{◌≡◌, ℕ, suc, ◌+◌, ◌-◌, ◌*◌, ◌<◌, ◌≤◌, Bool, true, false, cond, ◌&&◌, ltb, List, [], ◌∷◌, length, get_or, drop, refl, ap, ◌∙◌, add-one, arith, drop_of_length-le, drop-cons, le-ltb, lt-ltb}
use Rattle.std.specs.Prelude.{Some, None}
use Rattle.calls.specs.Numbers.{is_digit, all_digits, digits_after, value_of, is_number, number_of, all_numbers, number_in}
use Rattle.calls.specs.Text.{word_of}

-- further digits make a number no smaller
pub digits-grow : (s : List ℕ) (n : ℕ) → n ≤ digits_after n s
unfolding digits_after
digits-grow [] n = omega arith
digits-grow (b ∷ s) n = let h = digits-grow s (n * 10 + (b - 48)) in omega (arith, h)

-- ---- none

and-false : (t : Bool) → (t && false) ≡ false
and-false true = refl
and-false false = refl

none-in : (s : List ℕ) → is_number s ≡ false → None ≡ number_in s
unfolding number_in
none-in s e = rw e refl

pub no-digits : (s : List ℕ) → length s ≡ 0 → None ≡ number_in s
unfolding is_number
no-digits s e = none-in s (rw e refl)

too-large : (s : List ℕ) → 4294967296 ≤ value_of s → None ≡ number_in s
unfolding is_number
too-large s h = none-in s (rw (le-ltb (value_of s) 4294967296 h) (and-false (ltb 0 (length s) && all_digits s)))

other-digits : (s : List ℕ) → all_digits s ≡ false → None ≡ number_in s
unfolding is_number
other-digits s e = none-in s (rw (e, and-false (ltb 0 (length s))) refl)

-- ---- the digits of s: n is the number ahead of byte i

-- what is known of the bytes from i on is known of all
pub record Ahead (s : List ℕ) (i n : ℕ) : Type 0 where
  pub digits : all_digits s ≡ all_digits (drop i s)
  pub value : value_of s ≡ digits_after n (drop i s)

pub ahead_none : (s : List ℕ) → Ahead s 0 0
ahead_none s = record { digits = refl; value = refl }

module _ (s : List ℕ) (i n : ℕ) (a : Ahead s i n) (l : i < length s) where
  all-at : all_digits s ≡ (is_digit (get_or s i 0) && all_digits (drop (suc i) s))
  unfolding all_digits
  all-at = a.digits ∙ ap all_digits (drop-cons s i 0 l)

  value-at : value_of s ≡ digits_after (n * 10 + (get_or s i 0 - 48)) (drop (suc i) s)
  unfolding digits_after
  value-at = a.value ∙ ap (digits_after n) (drop-cons s i 0 l)

  -- no digit
  pub not_digit : is_digit (get_or s i 0) ≡ false → None ≡ number_in s
  not_digit e = other-digits s (all-at ∙ ap (λ (t : Bool). t && all_digits (drop (suc i) s)) e)

  -- a digit that makes it too large
  pub grown-large : 4294967296 ≤ n * 10 + (get_or s i 0 - 48) → None ≡ number_in s
  grown-large h =
      let g = digits-grow (drop (suc i) s) (n * 10 + (get_or s i 0 - 48)) in
      too-large s (omega (arith, value-at, g, h))

  -- one digit more
  pub ahead_more : is_digit (get_or s i 0) ≡ true → Ahead s (i + 1) (n * 10 + (get_or s i 0 - 48))
  ahead_more e =
      rw (add-one i)
      (record {
        digits = all-at ∙ ap (λ (t : Bool). t && all_digits (drop (suc i) s)) e;
        value = value-at;
      })

-- all of them
pub all_read : (s : List ℕ) (i n : ℕ) → Ahead s i n → length s ≤ i → (length s ≡ 0 → ⊥) → n < 4294967296 → Some n ≡ number_in s
unfolding number_in is_number all_digits digits_after
all_read s i n a l h m =
    let z : drop i s ≡ [] = drop_of_length-le s l in
    let d : all_digits s ≡ true = a.digits ∙ ap all_digits z in
    let v : value_of s ≡ n = a.value ∙ ap (digits_after n) z in
    let p : ltb 0 (length s) ≡ true = lt-ltb 0 (length s) (omega (arith, h)) in
    let q : ltb n 4294967296 ≡ true = lt-ltb n 4294967296 m in
    rw (p, d, v, q) refl

-- ---- as it is told

pub number-is : (s : List ℕ) (n : ℕ) → Some n ≡ number_in s → (is_number s ≡ true) × (n ≡ number_of s)
unfolding number_in number_of
number-is s n e = by (is_number s) e
  where
    by : (t : Bool) → Some n ≡ cond t (Some (value_of s)) None → (t ≡ true) × (n ≡ cond t (value_of s) 0)
    by true e = (refl, cc)
    by false e = absurd (cc)

pub number-is_none : (s : List ℕ) → None ≡ number_in s → is_number s ≡ false
unfolding number_in
number-is_none s e = by (is_number s) e
  where
    by : (t : Bool) → None ≡ cond t (Some (value_of s)) None → t ≡ false
    by true e = absurd (cc)
    by false e = refl

-- the four numbers of a block and its pool
and-both : (a b : Bool) → (a && b) ≡ true → (a ≡ true) × (b ≡ true)
and-both true b e = (refl, e)
and-both false b e = absurd (cc)

pub all-each : (s : List ℕ) → all_numbers s ≡ true
    → (is_number (word_of s 2) ≡ true) × (is_number (word_of s 3) ≡ true) × (is_number (word_of s 4) ≡ true) × (is_number (word_of s 5) ≡ true)
unfolding all_numbers
all-each s e =
    let d = and-both _ (is_number (word_of s 5)) e in
    let c = and-both _ (is_number (word_of s 4)) d.0 in
    let b = and-both _ (is_number (word_of s 3)) c.0 in
    (b.0, b.1, c.1, d.1)

pub each-all : (s : List ℕ) → is_number (word_of s 2) ≡ true → is_number (word_of s 3) ≡ true → is_number (word_of s 4) ≡ true → is_number (word_of s 5) ≡ true
    → all_numbers s ≡ true
unfolding all_numbers
each-all s a b c d = rw (a, b, c, d) refl
