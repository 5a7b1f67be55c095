-- Where each table and the leftovers stand in a memory file, and words as bytes. Assumes nothing.
use Prim.Native.Nat.{ℕ, ◌+◌, ◌-◌, ◌*◌, ◌/◌, ◌%◌, ◌<◌, ◌≤◌}
use mathlib.Core.List.{List}
use mathlib.Core.Path.{◌≡◌, refl, ap, subst, ◌∙◌}
use native.Mathlib.Decide.{dec_lt, ℕ_discrete}
use native.Mathlib.Omega.{arith}
use borrow.Author.Tests.{lt-ltb, le-ltb, eq-eqb, ne_eqb}
use lib.IntN.{ℤ, pos}
use lib.ListN.{length, get_or, drop, length-drop}
use lib.Seq.{length-take-le, get_or-take, get_or-drop, ext_get_or}
use Rattle.ec20.proofs.MovedLaws.{get_d-from, length_from}
use Rattle.ec20.specs.Basics.{list}
use Rattle.ec20.specs.File.{byte_at, u16_at}
use Rattle.ec20.specs.Numbers.{low, signed, wrap}
use Rattle.ec20.specs.Plant.{Plant}
use Rattle.ec20.specs.Registers.{word_at}
use Rattle.ints.proofs.TwosLaws.{low_signed, wrap-fits}
use Rattle.image.specs.Image.{OfBytes, OfWords, word_in, words_of, byte_of, part, bit_byte, image_byte}

-- ---- a part of the bytes

pub part_length : (b : List ℕ) (a n : ℕ) → a + n ≤ length b → length (part a n b) ≡ n
part_length b a n h = length-take-le n (drop a b) (omega (arith, length-drop a b))

pub part_at : (b : List ℕ) (a n i : ℕ) → i < n → byte_at (part a n b) i ≡ byte_at b (a + i)
part_at b a n i h = get_or-take n (drop a b) i 0 h ∙ get_or-drop a b i 0

-- ---- entry i of a list by a rule

pub list_at : {A : Type 0} (z : A) (n : ℕ) (f : ℕ → A) (i : ℕ) → i < n → get_or (list n f) i z ≡ f i
list_at z n f i h = let e : 0 + i ≡ i = omega arith in get_d-from f 0 n i z h ∙ ap f e

-- ---- the bytes of each table

module _ (q : Plant) (i : ℕ) where
  pub in-x : i < 32 → image_byte q (0 + i) ≡ byte_at q.mem.x i
  unfolding image_byte bit_byte
  in-x h = let e : 0 + i ≡ i = omega arith in rw (e, lt-ltb i 378 (omega arith), lt-ltb i 32 h) refl

  pub in-y : i < 32 → image_byte q (32 + i) ≡ byte_at q.mem.y i
  unfolding image_byte bit_byte
  in-y h =
      let e : 32 + i - 32 ≡ i = omega arith in
      rw (lt-ltb (32 + i) 378 (omega arith), le-ltb (32 + i) 32 (omega arith), lt-ltb (32 + i) 64 (omega arith)) (ap (byte_at q.mem.y) e)

  pub in-m : i < 250 → image_byte q (64 + i) ≡ byte_at q.mem.m i
  unfolding image_byte bit_byte
  in-m h =
      let e : 64 + i - 64 ≡ i = omega arith in
      rw (lt-ltb (64 + i) 378 (omega arith), le-ltb (64 + i) 32 (omega arith), le-ltb (64 + i) 64 (omega arith), lt-ltb (64 + i) 314 (omega arith))
      (ap (byte_at q.mem.m) e)

  pub in-sm : i < 32 → image_byte q (314 + i) ≡ byte_at q.mem.sm i
  unfolding image_byte bit_byte
  in-sm h =
      let e : 314 + i - 314 ≡ i = omega arith in
      rw (lt-ltb (314 + i) 378 (omega arith), le-ltb (314 + i) 32 (omega arith), le-ltb (314 + i) 64 (omega arith), le-ltb (314 + i) 314 (omega arith), lt-ltb (314 + i) 346 (omega arith))
      (ap (byte_at q.mem.sm) e)

  pub in-t : i < 32 → image_byte q (346 + i) ≡ byte_at q.mem.t i
  unfolding image_byte bit_byte
  in-t h =
      let e : 346 + i - 346 ≡ i = omega arith in
      rw (lt-ltb (346 + i) 378 (omega arith), le-ltb (346 + i) 32 (omega arith), le-ltb (346 + i) 64 (omega arith), le-ltb (346 + i) 314 (omega arith), le-ltb (346 + i) 346 (omega arith))
      (ap (byte_at q.mem.t) e)

  pub in_d : i < 16000 → image_byte q (378 + i) ≡ byte_of q.mem.d i
  unfolding image_byte
  in_d h =
      let e : 378 + i - 378 ≡ i = omega arith in
      rw (le-ltb (378 + i) 378 (omega arith), lt-ltb (378 + i) 16378 (omega arith)) (ap (byte_of q.mem.d) e)

  pub in_tv : i < 512 → image_byte q (16378 + i) ≡ byte_of q.mem.tv i
  unfolding image_byte
  in_tv h =
      let e : 16378 + i - 16378 ≡ i = omega arith in
      rw (le-ltb (16378 + i) 378 (omega arith), le-ltb (16378 + i) 16378 (omega arith), lt-ltb (16378 + i) 16890 (omega arith)) (ap (byte_of q.mem.tv) e)

  pub in_rest : image_byte q (16890 + i) ≡ byte_at q.rest i
  unfolding image_byte
  in_rest =
      let e : 16890 + i - 16890 ≡ i = omega arith in
      rw (le-ltb (16890 + i) 378 (omega arith), le-ltb (16890 + i) 16378 (omega arith), le-ltb (16890 + i) 16890 (omega arith)) (ap (byte_at q.rest) e)

-- a number below 16,892 is the number of a byte of one of the tables, or of a leftover
pub by-table : (P : ℕ → Type 0) → ((k : ℕ) → k < 32 → P (0 + k)) → ((k : ℕ) → k < 32 → P (32 + k)) → ((k : ℕ) → k < 250 → P (64 + k)) → ((k : ℕ) → k < 32 → P (314 + k))
    → ((k : ℕ) → k < 32 → P (346 + k)) → ((k : ℕ) → k < 16000 → P (378 + k)) → ((k : ℕ) → k < 512 → P (16378 + k)) → ((k : ℕ) → k < 2 → P (16890 + k))
    → (i : ℕ) → i < 16892 → P i
by-table P x y m sm t d tv rest i h =
    elim (dec_lt i 32) [
      | yes l ↦ from 0 32 (omega arith) (omega arith) x
      | no a ↦ elim (dec_lt i 64) [
        | yes l ↦ from 32 32 (omega arith) (omega arith) y
        | no b ↦ elim (dec_lt i 314) [
          | yes l ↦ from 64 250 (omega arith) (omega arith) m
          | no c ↦ elim (dec_lt i 346) [
            | yes l ↦ from 314 32 (omega arith) (omega arith) sm
            | no e ↦ elim (dec_lt i 378) [
              | yes l ↦ from 346 32 (omega arith) (omega arith) t
              | no f ↦ elim (dec_lt i 16378) [
                | yes l ↦ from 378 16000 (omega arith) (omega arith) d
                | no g ↦ elim (dec_lt i 16890) [
                  | yes l ↦ from 16378 512 (omega arith) (omega arith) tv
                  | no j ↦ from 16890 2 (omega arith) (omega arith) rest
                ]
              ]
            ]
          ]
        ]
      ]
    ]
  where
    from : (a n : ℕ) → a ≤ i → i < a + n → ((k : ℕ) → k < n → P (a + k)) → P i
    from a n l u f = let e : a + (i - a) ≡ i = omega arith in subst P e (f (i - a) (omega arith))

-- ---- words as bytes

-- the two bytes of a word
pub low_byte : (d : List ℤ) (i : ℕ) → byte_of d (2 * i) ≡ low 65536 (word_at d i) % 256
unfolding byte_of
low_byte d i =
    let e : 2 * i / 2 ≡ i = omega arith in
    rw (eq-eqb (2 * i % 2) 0 (omega arith)) (ap (λ (k : ℕ). low 65536 (word_at d k) % 256) e)

pub high_byte : (d : List ℤ) (i : ℕ) → byte_of d (2 * i + 1) ≡ low 65536 (word_at d i) / 256
unfolding byte_of
high_byte d i =
    let e : (2 * i + 1) / 2 ≡ i = omega arith in
    rw (ne_eqb ((2 * i + 1) % 2) 0 (λ q. omega arith)) (ap (λ (k : ℕ). low 65536 (word_at d k) / 256) e)

-- the words of bytes
pub words-length : (p : List ℕ) → length (words_of p) ≡ length p / 2
unfolding words_of
words-length p = length_from (word_in p) 0 (length p / 2)

pub words-at : (p : List ℕ) (i : ℕ) → i < length p / 2 → word_at (words_of p) i ≡ word_in p i
unfolding words_of
words-at p i h = list_at (pos 0) (length p / 2) (word_in p) i h

word-at : (p : List ℕ) (i : ℕ) → i < length p / 2 → word_at (words_of p) i ≡ signed 32768 (byte_at p (2 * i) + byte_at p (2 * i + 1) * 256)
unfolding word_in u16_at
word-at p i h = words-at p i h ∙ rw (lt-ltb i (length p / 2) h) refl

-- bytes, as words, as bytes again
module _ (p : List ℕ) (bytes : OfBytes p) (even : length p % 2 ≡ 0) where
  low-at : (i : ℕ) → i < length p / 2 → low 65536 (word_at (words_of p) i) ≡ byte_at p (2 * i) + byte_at p (2 * i + 1) * 256
  low-at i h =
      ap (low 65536) (word-at p i h)
      ∙ low_signed 32768 (byte_at p (2 * i) + byte_at p (2 * i + 1) * 256) (omega (arith, bytes (2 * i), bytes (2 * i + 1)))

  pub bytes_back : (j : ℕ) → j < length p → byte_of (words_of p) j ≡ byte_at p j
  unfolding byte_of
  bytes_back j h =
      let l = low-at (j / 2) (omega arith) in
      let b = bytes (2 * (j / 2)) in
      elim (ℕ_discrete (j % 2) 0) [
        | yes e ↦
            let k : 2 * (j / 2) ≡ j = omega arith in
            let u : low 65536 (word_at (words_of p) (j / 2)) % 256 ≡ byte_at p (2 * (j / 2)) = omega arith in
            rw (eq-eqb (j % 2) 0 e) (u ∙ ap (byte_at p) k)
        | no e ↦
            let k : 2 * (j / 2) + 1 ≡ j = omega arith in
            let u : low 65536 (word_at (words_of p) (j / 2)) / 256 ≡ byte_at p (2 * (j / 2) + 1) = omega arith in
            rw (ne_eqb (j % 2) 0 e) (u ∙ ap (byte_at p) k)
      ]

-- words of 16 bits, as bytes, as words again
module _ (p : List ℕ) (d : List ℤ) (size : length p ≡ 2 * length d) (words : OfWords d) (same : (k : ℕ) → k < length p → byte_at p k ≡ byte_of d k) where
  bits_back : (i : ℕ) → i < length d → byte_at p (2 * i) + byte_at p (2 * i + 1) * 256 ≡ low 65536 (word_at d i)
  bits_back i h =
      let a = same (2 * i) (omega arith) ∙ low_byte d i in
      let b = same (2 * i + 1) (omega arith) ∙ high_byte d i in
      omega arith

  word_back : (i : ℕ) → i < length d → word_at (words_of p) i ≡ word_at d i
  unfolding wrap
  word_back i h = word-at p i (omega arith) ∙ ap (signed 32768) (bits_back i h) ∙ wrap-fits 32768 (word_at d i) (words i)

  pub words_back : words_of p ≡ d
  words_back =
      let l : length (words_of p) ≡ length d = words-length p ∙ let q : length p / 2 ≡ length d = omega arith in q in
      ext_get_or (pos 0) (words_of p) d l (λ i h. word_back i (omega arith))
