-- The words of a call by their definitions, and what the loops over them keep. Assumes nothing.
use Rattle.std.proofs.Common.{◌≡◌, ℕ, suc, ◌+◌, ◌-◌, ◌<◌, ◌≤◌, Bool, true, false, cond, ◌&&◌, T, eqb, ◌==◌, List, [], ◌∷◌, length, get_or, take, drop, sym, refl, ap, ◌∙◌, subst, ap₂, add-one, arith, length-drop, drop_of_length-le, take_all, drop-cons, drop-drop, eq-eqb, ne_eqb, eqb-true}
use Rattle.calls.specs.Text.{until, until_zero, after_zero, rest_at, word_of, count_of, same_word, which_from}

-- ---- where the first zero byte stands

until-same : (t : Bool) (b : ℕ) (u v : List ℕ) → u ≡ v → cond t [] (b ∷ u) ≡ cond t [] (b ∷ v)
until-same t b u v e = ap (λ (l : List ℕ). cond t [] (b ∷ l)) e

pub until_is_zero : (s : List ℕ) → until 0 s ≡ until_zero s
unfolding until until_zero
until_is_zero [] = refl
until_is_zero (b ∷ s) = until-same (b == 0) b (until 0 s) (until_zero s) (until_is_zero s)

-- it is looked for from a place on
pub ends : (s : List ℕ) (from : ℕ) → from + length (until 0 (drop from s)) ≡ from + length (until_zero (drop from s))
ends s from = ap (λ (l : List ℕ). from + length l) (until_is_zero (drop from s))

-- ---- a search for the byte x: n is where what is asked for stands

module _ (s : List ℕ) (x i n : ℕ) (h : i + length (until x (drop i s)) ≡ n) where
  find_at : (t : Bool) → i < length s → (get_or s i 0 == x) ≡ t → length (until x (drop i s)) ≡ length (cond t [] (get_or s i 0 ∷ until x (drop (suc i) s)))
  unfolding until
  find_at t l e =
      ap (λ (u : List ℕ). length (until x u)) (drop-cons s i 0 l) ∙ ap (λ (b : Bool). length (cond b [] (get_or s i 0 ∷ until x (drop (suc i) s)))) e

  pub find-here : i < length s → get_or s i 0 ≡ x → i ≡ n
  find-here l z = let e = find_at true l (eq-eqb _ _ z) in omega (arith, e, h)

  pub find-later : i < length s → (get_or s i 0 ≡ x → ⊥) → i + 1 + length (until x (drop (i + 1) s)) ≡ n
  find-later l z = let e = find_at false l (ne_eqb _ _ z) in rw (add-one i) (omega (arith, e, h))

  pub find-none : length s ≤ i → i ≡ n
  unfolding until
  find-none l = let e : length (until x (drop i s)) ≡ 0 = ap (λ (u : List ℕ). length (until x u)) (drop_of_length-le s l) in omega (arith, e, h)

-- what is ahead of it
until-by : (t : Bool) (b : ℕ) (s u : List ℕ) → take (length u) s ≡ u → take (length (cond t [] (b ∷ u))) (b ∷ s) ≡ cond t [] (b ∷ u)
until-by true b s u e = refl
until-by false b s u e = ap (λ (l : List ℕ). b ∷ l) e

pub until-is : (s : List ℕ) → take (length (until_zero s)) s ≡ until_zero s
unfolding until_zero
until-is [] = refl
until-is (b ∷ s) = until-by (eqb b 0) b s (until_zero s) (until-is s)

-- what is after it
after-by : (t : Bool) (b : ℕ) (s u a : List ℕ) → drop (suc (length u)) s ≡ a → drop (suc (length (cond t [] (b ∷ u)))) (b ∷ s) ≡ cond t s a
after-by true b s u a e = refl
after-by false b s u a e = e

pub after_is : (s : List ℕ) → drop (suc (length (until_zero s))) s ≡ after_zero s
unfolding until_zero after_zero
after_is [] = refl
after_is (b ∷ s) = after-by (eqb b 0) b s (until_zero s) (after_zero s) (after_is s)

-- ---- the next word, where the one at `from` ends at e

module _ (s : List ℕ) (from e : ℕ) (h : e ≡ from + length (until_zero (drop from s))) where
  pub past-zero : drop (e + 1) s ≡ after_zero (drop from s)
  past-zero =
      let g : e + 1 ≡ from + suc (length (until_zero (drop from s))) = omega arith in
      ap (λ (k : ℕ). drop k s) g ∙ sym (drop-drop (suc (length (until_zero (drop from s)))) from s) ∙ after_is (drop from s)

  pub no_zero : length s ≤ e → drop e s ≡ after_zero (drop from s)
  no_zero l = drop_of_length-le s l ∙ sym (drop_of_length-le s {i = e + 1} (omega arith)) ∙ past-zero

  -- the word itself is word i
  pub word-is : (i : ℕ) → drop from s ≡ rest_at s i → take (e - from) (drop from s) ≡ word_of s i
  word-is i r =
      let g : e - from ≡ length (until_zero (drop from s)) = omega arith in
      ap (λ (k : ℕ). take k (drop from s)) g ∙ until-is (drop from s) ∙ ap until_zero r

-- all that stands from a place on
pub all_after : (s : List ℕ) (from : ℕ) → take (length s - from) (drop from s) ≡ drop from s
all_after s from = let e = length-drop from s in take_all (length s - from) (drop from s) (omega (arith, e))

-- a turn of the loop over words, and its end
pub word_more : (s : List ℕ) (a b k : ℕ) → drop a s ≡ rest_at s k → drop b s ≡ after_zero (drop a s) → drop b s ≡ rest_at s (k + 1)
unfolding rest_at
word_more s a b k h g = g ∙ ap after_zero h ∙ ap (rest_at s) (sym (add-one k))

pub word-found : (s : List ℕ) (a k i : ℕ) → k ≤ i → i ≤ k → drop a s ≡ rest_at s k → drop a s ≡ rest_at s i
word-found s a k i l u h = let e : k ≡ i = omega arith in h ∙ ap (rest_at s) e

-- ---- how many there are: n were counted ahead of byte i, and m are there in all

module _ (s : List ℕ) (i n m : ℕ) (h : n + count_of (drop i s) ≡ m) where
  count_at : (t : Bool) → i < length s → eqb (get_or s i 0) 0 ≡ t → count_of (drop i s) ≡ cond t (suc (count_of (drop (suc i) s))) (count_of (drop (suc i) s))
  unfolding count_of
  count_at t l e =
      ap count_of (drop-cons s i 0 l) ∙ ap (λ (b : Bool). cond b (suc (count_of (drop (suc i) s))) (count_of (drop (suc i) s))) e

  pub count-zero : i < length s → get_or s i 0 ≡ 0 → n + 1 + count_of (drop (i + 1) s) ≡ m
  count-zero l z = let e = count_at true l (eq-eqb _ _ z) in rw (add-one i) (omega (arith, e))

  pub count-other : i < length s → (get_or s i 0 ≡ 0 → ⊥) → n + count_of (drop (i + 1) s) ≡ m
  count-other l z = let e = count_at false l (ne_eqb _ _ z) in rw (add-one i) (omega (arith, e))

  pub count-all : length s ≤ i → n ≡ m
  unfolding count_of
  count-all l = let e : count_of (drop i s) ≡ 0 = ap count_of (drop_of_length-le s l) in omega (arith, e)

-- ---- two words

pub both : (a b : Bool) → (a && b) ≡ true → (a ≡ true) × (b ≡ true)
both true b e = (refl, e)
both false b e = absurd (subst T (sym e) tt)

pub both_ways : (a b : Bool) → (a ≡ true → b ≡ true) → (b ≡ true → a ≡ true) → a ≡ b
both_ways true b f g = sym (f refl)
both_ways false true f g = g refl
both_ways false false f g = refl

same_true : (x y : List ℕ) → same_word x y ≡ true → x ≡ y
unfolding same_word
same_true [] [] e = refl
same_true [] (b ∷ y) e = absurd (subst T (sym e) tt)
same_true (a ∷ x) [] e = absurd (subst T (sym e) tt)
same_true (a ∷ x) (b ∷ y) e =
    let q = both (eqb a b) (same_word x y) e in
    ap₂ (λ (n : ℕ) (l : List ℕ). n ∷ l) (eqb-true a b q.0) (same_true x y q.1)

same_refl : (x : List ℕ) → same_word x x ≡ true
unfolding same_word
same_refl [] = refl
same_refl (a ∷ x) = ap (λ (t : Bool). t && same_word x x) (eq-eqb a a refl) ∙ same_refl x

-- as `check::same` tells it
pub same-is : (t : Bool) (x y : List ℕ) → (t ≡ true → x ≡ y) × (x ≡ y → t ≡ true) → t ≡ same_word x y
same-is t x y h =
    both_ways t (same_word x y) (λ e. subst (λ (z : List ℕ). same_word x z ≡ true) (h.0 e) (same_refl x)) (λ e. h.1 (same_true x y e))

-- ---- which it is: at word k, which is y, and is the word w by the test t; m is what the whole search gives

module _ (w s : List ℕ) (n k m : ℕ) (h : which_from w s k (n - k) ≡ m) where
  which-at : k < n → which_from w s k (n - k) ≡ cond (same_word w (word_of s k)) k (which_from w s (suc k) (n - suc k))
  unfolding which_from
  which-at l = let e : n - k ≡ suc (n - suc k) = omega arith in ap (which_from w s k) e

  module _ (y : List ℕ) (t : Bool) (e : y ≡ word_of s k) (q : (t ≡ true → w ≡ y) × (w ≡ y → t ≡ true)) (l : k < n) where
    by-test : (u : Bool) → t ≡ u → cond u k (which_from w s (suc k) (n - suc k)) ≡ m
    by-test u z =
        ap (λ (b : Bool). cond b k (which_from w s (suc k) (n - suc k))) (sym z ∙ same-is t w y q ∙ ap (same_word w) e) ∙ sym (which-at l) ∙ h

    pub which-found : t ≡ true → k ≡ m
    which-found z = by-test true z

    pub which-more : t ≡ false → which_from w s (k + 1) (n - (k + 1)) ≡ m
    which-more z = rw (add-one k) (by-test false z)

  pub which-none : k ≤ n → n ≤ k → k ≡ m
  unfolding which_from
  which-none l u = let e : n - k ≡ 0 = omega arith in ap (which_from w s k) (sym e) ∙ h
