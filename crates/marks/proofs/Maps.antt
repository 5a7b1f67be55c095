-- The map by a test: each word is marked by the test, and a map with more words marked is the map by the wider test. Assumes nothing.
use Prim.Native.Nat.{ℕ, zero, suc, ◌+◌, ◌*◌, ◌-◌, ◌/◌, ◌%◌, ◌<◌, ◌≤◌}
use mathlib.Core.Bool.{Bool, true, false, ◌&&◌, ◌||◌, or_assoc, or-false}
use mathlib.Core.List.{List}
use mathlib.Core.Path.{◌≡◌, refl, sym, ap, fun_ext, ◌∙◌}
use native.Mathlib.Decide.{ℕ_discrete, dec_lt}
use native.Mathlib.Numerals.{add-one}
use native.Mathlib.Omega.{arith}
use lib.Dec.{eqb}
use lib.ListN.{get_or, length, length-set, length-replicate, get_or-replicate}
use lib.Seq.{ext_get_or, get_or-set_same, get_or-set_other, set_out}
use borrow.Author.Tests.{le-leb, lt-leb, lt-ltb, le-ltb, eq-eqb, ne_eqb}
use Rattle.ec20.proofs.MovedLaws.{get_d-from, length_from}
use Rattle.ec20.proofs.Ranges.{within-no}
use Rattle.ec20.proofs.Tests.{or_right}
use Rattle.ec20.specs.Answers.{blank_map}
use Rattle.ec20.specs.Basics.{pick, one_if}
use Rattle.ec20.specs.Bits.{bit_of, bit_at, byte_with, with_bit}
use Rattle.ec20.specs.Devices.{Device, within}
use Rattle.ec20.specs.Operands.{in_d, start_of, extent_of}
use Rattle.ec20.specs.UseMap.{packed_by, map_of, holds}
use Rattle.ec20.specs.declared.Operand.{Operand}
use Rattle.ec20.specs.declared.Place.{Place}
use Rattle.marks.specs.Marked.{marked, marking, marking_held}
use Rattle.marks.proofs.Words.{words-none, words_same, word-bit, word-put}

-- ---- tests

-- one word more
within_more : (a n i : ℕ) → (within a n i || eqb i (a + n)) ≡ within a (suc n) i
unfolding within
within_more a n i =
    elim (dec_lt i a) [
      | yes l ↦ rw (lt-leb a i l, ne_eqb i (a + n) (λ e. omega arith)) refl
      | no l ↦
          let low : a ≤ i = omega arith in
          elim (dec_lt i (a + n)) [
            | yes u ↦ let w : i < a + suc n = omega arith in rw (le-leb a i low, lt-ltb i (a + n) u, lt-ltb i (a + suc n) w) refl
            | no u ↦
                elim (ℕ_discrete i (a + n)) [
                  | yes e ↦
                      let w : i < a + suc n = omega arith in
                      let z : a + n ≤ i = omega arith in
                      rw (le-leb a i low, le-ltb i (a + n) z, lt-ltb i (a + suc n) w, eq-eqb i (a + n) e) refl
                  | no e ↦
                      let w : a + suc n ≤ i = omega arith in
                      let z : a + n ≤ i = omega arith in
                      rw (le-leb a i low, le-ltb i (a + n) z, le-ltb i (a + suc n) w, ne_eqb i (a + n) e) refl
                ]
          ]
    ]

-- a word's bit is 1 exactly if the test holds
one-is : (b : Bool) → eqb (one_if b) 1 ≡ b
one-is true = refl
one-is false = refl

-- ---- the map

-- one word more is marked
pub marking-more : (m : List ℕ) (a k : ℕ) {x y : List ℕ} → x ≡ marking m a k → y ≡ with_bit x (a + k) 1 → y ≡ marking m a (k + 1)
unfolding marking
marking-more m a k e f = f ∙ rw (e, add-one) refl

module _ (v : Device) where
  -- so many bytes
  abbrev Bytes : ℕ
  Bytes = v.words / 8

  map-length : (p : ℕ → Bool) → length (map_of v p) ≡ Bytes
  unfolding map_of
  map-length p = length_from _ 0 Bytes

  map_at : (p : ℕ → Bool) (j : ℕ) → j < Bytes → get_or (map_of v p) j 0 ≡ packed_by p (8 * j) 8
  unfolding map_of
  map_at p j h = get_d-from (λ (i : ℕ). packed_by p (8 * i) 8) 0 Bytes j 0 h ∙ ap (λ (i : ℕ). packed_by p (8 * i) 8) (omega arith)

  -- a list of so many bytes, each by the test, is the map
  is-map : (l : List ℕ) (p : ℕ → Bool) → length l ≡ Bytes → ((j : ℕ) → j < Bytes → get_or l j 0 ≡ packed_by p (8 * j) 8) → l ≡ map_of v p
  is-map l p e h = ext_get_or 0 l (map_of v p) (e ∙ sym (map-length p)) (λ j b. let i : j < Bytes = omega (arith, e) in h j i ∙ sym (map_at p j i))

  -- the map goes by the test on its own words alone
  pub map_same : (p q : ℕ → Bool) → ((i : ℕ) → i < 8 * Bytes → p i ≡ q i) → map_of v p ≡ map_of v q
  map_same p q h = is-map (map_of v p) q (map-length p) (λ j b. map_at p j b ∙ words_same p q (8 * j) 8 (λ i l u. h i (omega arith)))

  -- no word marked
  pub map-none : blank_map v ≡ map_of v (λ i. false)
  map-none = is-map (blank_map v) (λ i. false) (length-replicate Bytes 0) (λ j b. get_or-replicate Bytes j 0 0 b ∙ sym (words-none (8 * j) 8))

  -- a word is marked by the test
  pub map-marked : (p : ℕ → Bool) (i : ℕ) → i < 8 * Bytes → marked (map_of v p) i ≡ p i
  unfolding marked bit_at
  map-marked p i h =
      let k : ℕ = i % 8 in
      let e : 8 ≡ k + suc (7 - k) = omega arith in
      let at : 8 * (i / 8) + k ≡ i = omega arith in
      ap (λ (x : ℕ). eqb (bit_of x k) 1) (map_at p (i / 8) (omega arith) ∙ ap (packed_by p (8 * (i / 8))) e)
      ∙ ap (λ (x : ℕ). eqb x 1) (word-bit p (8 * (i / 8)) k (7 - k))
      ∙ one-is (p (8 * (i / 8) + k))
      ∙ ap p at

  -- one more word, in the map: its byte has one more bit, and every other byte is as it was
  put_byte : (p : ℕ → Bool) (i : ℕ) → byte_with (packed_by p (8 * (i / 8)) 8) (i % 8) 1 ≡ packed_by (λ j. p j || eqb j i) (8 * (i / 8)) 8
  put_byte p i =
      let q : ℕ → Bool = λ j. p j || eqb j i in
      let k : ℕ = i % 8 in
      let e : 8 ≡ k + suc (7 - k) = omega arith in
      let at : 8 * (i / 8) + k ≡ i = omega arith in
      ap (λ (n : ℕ). byte_with (packed_by p (8 * (i / 8)) n) k 1) e
      ∙ word-put p (8 * (i / 8)) k (7 - k) q (ap (λ (b : Bool). p (8 * (i / 8) + k) || b) (eq-eqb _ _ at) ∙ or_right (p (8 * (i / 8) + k)) true refl) (λ j n. sym (or-false (p j)) ∙ ap (λ (b : Bool). p j || b) (sym (ne_eqb j i (λ z. n (z ∙ sym at)))))
      ∙ ap (packed_by q (8 * (i / 8))) (sym e)

  put_in : (p : ℕ → Bool) (i : ℕ) → i / 8 < Bytes → with_bit (map_of v p) i 1 ≡ map_of v (λ j. p j || eqb j i)
  unfolding with_bit
  put_in p i l =
      let q : ℕ → Bool = λ j. p j || eqb j i in
      is-map _ q (length-set (map_of v p) (i / 8) _ ∙ map-length p)
      (λ j b.
      elim (ℕ_discrete j (i / 8)) [
        | yes e ↦
            ap (λ (m : ℕ). get_or (with_bit (map_of v p) i 1) m 0) e
            ∙ get_or-set_same (map_of v p) (i / 8) _ 0 (omega (arith, map-length p))
            ∙ ap (λ (x : ℕ). byte_with x (i % 8) 1) (map_at p (i / 8) l)
            ∙ put_byte p i
            ∙ ap (λ (m : ℕ). packed_by q (8 * m) 8) (sym e)
        | no e ↦
            get_or-set_other (map_of v p) (i / 8) j _ 0 e
            ∙ map_at p j b
            ∙ words_same p q (8 * j) 8 (λ m a z. sym (or-false (p m)) ∙ ap (λ (b : Bool). p m || b) (sym (ne_eqb m i (λ y. e (omega arith)))))
      ])

  -- past it: nothing
  put-out : (p : ℕ → Bool) (i : ℕ) → Bytes ≤ i / 8 → with_bit (map_of v p) i 1 ≡ map_of v (λ j. p j || eqb j i)
  unfolding with_bit
  put-out p i l =
      set_out (map_of v p) (i / 8) _ (omega (arith, map-length p))
      ∙ map_same p (λ j. p j || eqb j i) (λ j h. sym (or-false (p j)) ∙ ap (λ (b : Bool). p j || b) (sym (ne_eqb j i (λ e. omega arith))))

  -- one bit put
  map-put : (p : ℕ → Bool) (i : ℕ) → with_bit (map_of v p) i 1 ≡ map_of v (λ j. p j || eqb j i)
  unfolding with_bit
  map-put p i = elim (dec_lt (i / 8) Bytes) [ yes l ↦ put_in p i l | no l ↦ put-out p i (omega arith) ]

  -- n words marked
  pub map-marking : (p : ℕ → Bool) (a n : ℕ) → marking (map_of v p) a n ≡ map_of v (λ i. p i || within a n i)
  unfolding marking
  map-marking p a zero = ap (map_of v) (fun_ext (λ i. sym (or-false (p i)) ∙ ap (λ (b : Bool). p i || b) (sym (within-no a 0 i (λ h. omega (arith, h))))))
  map-marking p a (suc n) =
      ap (λ (l : List ℕ). with_bit l (a + n) 1) (map-marking p a n)
      ∙ map-put (λ i. p i || within a n i) (a + n)
      ∙ ap (map_of v) (fun_ext (λ i. or_assoc (p i) (within a n i) (eqb i (a + n)) ∙ ap (λ (b : Bool). p i || b) (within_more a n i)))

  held_by : (p : ℕ → Bool) (a n : ℕ) (t : Bool) → pick t (marking (map_of v p) a n) (map_of v p) ≡ map_of v (λ i. p i || t && within a n i)
  held_by p a n true = map-marking p a n
  held_by p a n false = ap (map_of v) (fun_ext (λ i. sym (or-false (p i))))

  -- the words marked that an operand's extent holds
  pub map-held : (p : ℕ → Bool) (w : Place) (o : Operand) → marking_held (map_of v p) w o ≡ map_of v (λ i. p i || holds i w o)
  unfolding marking_held holds
  map-held p w o = held_by p (start_of o) (extent_of w o) (in_d o)
