-- Splitting a memory file into its tables and leftovers and joining them are each other's inverse. Assumes nothing.
use Prim.Native.Nat.{ℕ, ◌+◌, ◌-◌, ◌*◌, ◌/◌, ◌%◌, ◌<◌, ◌≤◌}
use mathlib.Core.List.{List}
use mathlib.Core.Path.{◌≡◌, refl, sym, subst, ◌∙◌}
use native.Mathlib.Decide.{dec_lt}
use native.Mathlib.Omega.{arith}
use lib.IntN.{ℤ, pos}
use lib.ListN.{length, get_or-eq_default}
use lib.Seq.{ext_get_or}
use lib.Signed.{mag}
use Rattle.ec20.proofs.MovedLaws.{length_from}
use Rattle.ec20.specs.File.{byte_at}
use Rattle.ec20.specs.Memory.{memory}
use Rattle.ec20.specs.Plant.{Plant, plant}
use Rattle.ec20.specs.Registers.{word_at}
use Rattle.image.proofs.Filling.{one-filled}
use Rattle.image.proofs.Sections.{part_length, part_at, list_at, in-x, in-y, in-m, in-sm, in-t, in_d, in_tv, in_rest, by-table, words-length, words-at, bytes_back, words_back}
use Rattle.image.specs.Image.{Filled, word_in, words_of, byte_of, part, image_byte, memory_of, plant_of, image_of, Sizes, OfBytes, OfWords, Kept, Word16}

pub image-length : (q : Plant) → length (image_of q) ≡ 16892
unfolding image_of
image-length q = length_from (image_byte q) 0 16892

pub image-at : (q : Plant) (i : ℕ) → i < 16892 → byte_at (image_of q) i ≡ image_byte q i
unfolding image_of
image-at q i h = list_at 0 16892 (image_byte q) i h

-- ---- split, then joined

module _ (b : List ℕ) (size : length b ≡ 16892) (bytes : OfBytes b) where
  part_bytes : (a n : ℕ) → a + n ≤ 16892 → OfBytes (part a n b)
  part_bytes a n h i =
      elim (dec_lt i n) [
        | yes l ↦ rw (part_at b a n i l) (bytes (a + i))
        | no l ↦
            let e : byte_at (part a n b) i ≡ 0 = get_or-eq_default (part a n b) 0 (omega (arith, part_length b a n (omega arith))) in
            omega arith
      ]

  part-words : (a n : ℕ) → a + n ≤ 16892 → n % 2 ≡ 0 → (k : ℕ) → k < n → byte_of (words_of (part a n b)) k ≡ byte_at b (a + k)
  part-words a n h e k l =
      let s = part_length b a n (omega arith) in
      bytes_back (part a n b) (part_bytes a n h) (omega arith) k (omega arith) ∙ part_at b a n k l

  byte-back : (i : ℕ) → i < 16892 → image_byte (plant_of b) i ≡ byte_at b i
  unfolding plant_of memory_of
  byte-back =
      by-table (λ i. image_byte (plant_of b) i ≡ byte_at b i)
      (λ k l. in-x (plant_of b) k l ∙ part_at b 0 32 k l)
      (λ k l. in-y (plant_of b) k l ∙ part_at b 32 32 k l)
      (λ k l. in-m (plant_of b) k l ∙ part_at b 64 250 k l)
      (λ k l. in-sm (plant_of b) k l ∙ part_at b 314 32 k l)
      (λ k l. in-t (plant_of b) k l ∙ part_at b 346 32 k l)
      (λ k l. in_d (plant_of b) k l ∙ part-words 378 16000 (omega arith) refl k l)
      (λ k l. in_tv (plant_of b) k l ∙ part-words 16378 512 (omega arith) refl k l)
      (λ k l. in_rest (plant_of b) k ∙ part_at b 16890 2 k l)

-- the bytes of the tables and leftovers of a memory file are the file
pub join-split : (b : List ℕ) → length b ≡ 16892 → OfBytes b → image_of (plant_of b) ≡ b
join-split b size bytes =
    let l = image-length (plant_of b) in
    ext_get_or 0 (image_of (plant_of b)) b (l ∙ sym size)
    (λ i h. let k : i < 16892 = omega arith in image-at (plant_of b) i k ∙ byte-back b size bytes i k)

-- ---- joined, then split

module _ (q : Plant) where
  -- the part that a table fills is the table
  bits-part : (a n : ℕ) (l : List ℕ) → a + n ≤ 16892 → length l ≡ n → ((k : ℕ) → k < n → image_byte q (a + k) ≡ byte_at l k) → part a n (image_of q) ≡ l
  bits-part a n l h s same =
      let z = image-length q in
      let e = part_length (image_of q) a n (omega arith) in
      ext_get_or 0 (part a n (image_of q)) l (e ∙ sym s)
      (λ k g. let g' : k < n = omega arith in part_at (image_of q) a n k g' ∙ image-at q (a + k) (omega arith) ∙ same k g')

  words-part : (a n : ℕ) (d : List ℤ) → a + n ≤ 16892 → 2 * length d ≡ n → OfWords d → ((k : ℕ) → k < n → image_byte q (a + k) ≡ byte_of d k)
      → words_of (part a n (image_of q)) ≡ d
  words-part a n d h s words same =
      let z = image-length q in
      let e = part_length (image_of q) a n (omega arith) in
      words_back (part a n (image_of q)) d (e ∙ sym s) words
      (λ k g. let g' : k < n = omega arith in part_at (image_of q) a n k g' ∙ image-at q (a + k) (omega arith) ∙ same k g')

same-plant : {x x' y y' m m' sm sm' t t' r r' : List ℕ} {d d' tv tv' : List ℤ}
    → x ≡ x' → y ≡ y' → m ≡ m' → sm ≡ sm' → t ≡ t' → d ≡ d' → tv ≡ tv' → r ≡ r'
    → plant (memory x y m sm t d tv) r ≡ plant (memory x' y' m' sm' t' d' tv') r'
same-plant a b c d e f g h = rw (a, b, c, d, e, f, g, h) refl

-- the tables and leftovers of the bytes of a memory with leftovers are these
pub split-join : (q : Plant) → Kept q → plant_of (image_of q) ≡ q
unfolding plant_of memory_of
split-join q k =
    let s = k.sizes in
    same-plant
    (bits-part q 0 32 q.mem.x (omega arith) s.x (in-x q))
    (bits-part q 32 32 q.mem.y (omega arith) s.y (in-y q))
    (bits-part q 64 250 q.mem.m (omega arith) s.m (in-m q))
    (bits-part q 314 32 q.mem.sm (omega arith) s.sm (in-sm q))
    (bits-part q 346 32 q.mem.t (omega arith) s.t (in-t q))
    (words-part q 378 16000 q.mem.d (omega arith) (omega (arith, s.d)) k.d (in_d q))
    (words-part q 16378 512 q.mem.tv (omega arith) (omega (arith, s.tv)) k.tv (in_tv q))
    (bits-part q 16890 2 q.rest (omega arith) s.rest (λ i _. in_rest q i))

-- ---- what the code's calls give

-- a table that is filled by its bytes, or by its words
module _ (b : List ℕ) (size : length b ≡ 16892) (a n : ℕ) (h : a + n ≤ 16892) where
  filled-bits : {k : ℕ} {l : List ℕ} → k ≡ n → Filled 0 k (λ i. byte_at (part a n b) i) l → l ≡ part a n b
  filled-bits {k} {l} e f =
      one-filled 0 k (λ i. byte_at (part a n b) i) l (part a n b) f (part_length b a n (omega arith) ∙ sym e, λ i _. refl)

  filled-words : {k : ℕ} {l : List ℤ} → 2 * k ≡ n → Filled (pos 0) k (λ i. word_in (part a n b) i) l → l ≡ words_of (part a n b)
  filled-words {k} {l} e f =
      let s = part_length b a n (omega arith) in
      let q : length (part a n b) / 2 ≡ k = omega arith in
      one-filled (pos 0) k (λ i. word_in (part a n b) i) l (words_of (part a n b)) f
      (words-length (part a n b) ∙ q, λ i g. words-at (part a n b) i (omega arith))

module _ (b : List ℕ) (size : length b ≡ 16892) where
  pub split-tables : {x y m sm t r x' y' m' sm' t' r' : List ℕ} {d tv d' tv' : List ℤ}
      → Filled 0 (length x) (λ i. byte_at (part 0 32 b) i) x'
      → Filled 0 (length y) (λ i. byte_at (part 32 32 b) i) y'
      → Filled 0 (length m) (λ i. byte_at (part 64 250 b) i) m'
      → Filled 0 (length sm) (λ i. byte_at (part 314 32 b) i) sm'
      → Filled 0 (length t) (λ i. byte_at (part 346 32 b) i) t'
      → Filled (pos 0) (length d) (λ i. word_in (part 378 16000 b) i) d'
      → Filled (pos 0) (length tv) (λ i. word_in (part 16378 512 b) i) tv'
      → Filled 0 (length r) (λ i. byte_at (part 16890 2 b) i) r'
      → Sizes (plant (memory x y m sm t d tv) r)
      → plant (memory x' y' m' sm' t' d' tv') r' ≡ plant_of b
  unfolding plant_of memory_of
  split-tables fx fy fm fsm ft fd ftv fr s =
      same-plant
      (filled-bits b size 0 32 (omega arith) s.x fx)
      (filled-bits b size 32 32 (omega arith) s.y fy)
      (filled-bits b size 64 250 (omega arith) s.m fm)
      (filled-bits b size 314 32 (omega arith) s.sm fsm)
      (filled-bits b size 346 32 (omega arith) s.t ft)
      (filled-words b size 378 16000 (omega arith) (omega (arith, s.d)) fd)
      (filled-words b size 16378 512 (omega arith) (omega (arith, s.tv)) ftv)
      (filled-bits b size 16890 2 (omega arith) s.rest fr)

-- past the end of a table stands 0
words-told : (d : List ℤ) (n : ℕ) → length d ≡ n → ((i : ℕ) → i < n → mag (word_at d i) < 32768) → OfWords d
words-told d n s w i =
    elim (dec_lt i n) [
      | yes l ↦ w i l
      | no l ↦ let z : length d ≤ i = omega arith in rw (get_or-eq_default d (pos 0) z) (omega arith)
    ]

-- the tables and leftovers of a memory file have their sizes
pub plant-sizes : (b : List ℕ) → length b ≡ 16892 → Sizes (plant_of b)
unfolding plant_of memory_of
plant-sizes b size =
    let d = part_length b 378 16000 (omega arith) in
    let tv = part_length b 16378 512 (omega arith) in
    record {
      x = part_length b 0 32 (omega arith);
      y = part_length b 32 32 (omega arith);
      m = part_length b 64 250 (omega arith);
      sm = part_length b 314 32 (omega arith);
      t = part_length b 346 32 (omega arith);
      d = words-length (part 378 16000 b) ∙ let e : length (part 378 16000 b) / 2 ≡ 8000 = omega arith in e;
      tv = words-length (part 16378 512 b) ∙ let e : length (part 16378 512 b) / 2 ≡ 256 = omega arith in e;
      rest = part_length b 16890 2 (omega arith);
    }

-- bytes that are filled by a memory's and its leftovers
module _ (q : Plant) {n : ℕ} (b : List ℕ) (f : Filled 0 n (λ i. image_byte q i) b) (size : n ≡ 16892) where
  pub joined-image : b ≡ image_of q
  joined-image =
      one-filled 0 n (λ i. image_byte q i) b (image_of q) f (image-length q ∙ sym size, λ i h. image-at q i (omega arith))

  -- and what they are of
  pub joined-plant : ((i : ℕ) → i < n → Word16 q.mem.d q.mem.tv i) → Sizes q → plant_of b ≡ q
  joined-plant told s =
      rw joined-image
      (split-join q
      (record { sizes = s; d = words-told q.mem.d 8000 s.d d-told; tv = words-told q.mem.tv 256 s.tv tv-told }))
    where
      d-told : (i : ℕ) → i < 8000 → mag (word_at q.mem.d i) < 32768
      d-told i h =
          let e : (378 + 2 * i - 378) / 2 ≡ i = omega arith in
          subst (λ (k : ℕ). mag (word_at q.mem.d k) < 32768) e ((told (378 + 2 * i) (omega arith)).in_d (omega arith) (omega arith))

      tv-told : (i : ℕ) → i < 256 → mag (word_at q.mem.tv i) < 32768
      tv-told i h =
          let e : (16378 + 2 * i - 16378) / 2 ≡ i = omega arith in
          subst (λ (k : ℕ). mag (word_at q.mem.tv k) < 32768) e ((told (16378 + 2 * i) (omega arith)).in_tv (omega arith) (omega arith))
