-- A file that is written: what its trailer says, that its frame is right, and that a file with no comment is its records and that trailer. Assumes nothing.
use Prim.Native.Nat.{ℕ, zero, suc, ◌+◌, ◌-◌, ◌*◌, ◌/◌, ◌%◌, ◌≤◌, ◌<◌}
use mathlib.Core.Bool.{true, ◌&&◌}
use mathlib.Core.List.{List, [], ◌∷◌, ◌++◌}
use mathlib.Core.Path.{◌≡◌, refl, sym, ap, ap₂, ◌∙◌}
use native.Mathlib.Omega.{arith}
use lib.Dec.{leb, eqb}
use lib.ListN.{length, take, drop, length-append, take-append-drop, drop_of_length-le}
use lib.Seq.{drop-cons}
use borrow.Author.Tests.{leb-true, eqb-true, le-leb, eq-eqb}
use Rattle.ec20.proofs.Tests.{both}
use Rattle.ec20.specs.Basics.{list_from}
use Rattle.ec20.specs.File.{byte_at, u16_at, u32_at, edition_of, count_of, distance_of, first_of, framed}
use Rattle.ec20.specs.Written.{trailer_of, end_record}

pub trailer-length : (e n : ℕ) → length (trailer_of e n) ≡ 8
unfolding trailer_of
trailer-length e n = refl

pub end-length : length end_record ≡ 20
unfolding end_record
end-length = refl

-- byte i of what stands behind other bytes
pub byte-behind : (x y : List ℕ) (i : ℕ) → byte_at (x ++ y) (length x + i) ≡ byte_at y i
byte-behind [] y i = ap (byte_at y) {x = 0 + i} {y = i} (omega arith)
byte-behind (a ∷ x) y i = ap (byte_at (a ∷ (x ++ y))) {x = suc (length x) + i} {y = suc (length x + i)} (omega arith) ∙ byte-behind x y i

-- four bytes make the number again
four-back : (m : ℕ) → m < 16777216 → m % 256 + m / 256 % 256 * 256 + m / 65536 % 256 * 65536 + m / 16777216 % 256 * 16777216 ≡ m
four-back m l =
    let a : m / 16777216 % 256 ≡ 0 = omega arith in
    let b : m / 65536 % 256 ≡ m / 65536 = omega arith in
    let c : m / 256 ≡ m / 65536 * 256 + m / 256 % 256 = omega arith in
    omega (arith, a, b, c)

-- ---- what the trailer says

module _ (x : List ℕ) (e n : ℕ) where
  all-length : length (x ++ trailer_of e n) ≡ length x + 8
  all-length = length-append x (trailer_of e n) ∙ ap (λ (k : ℕ). length x + k) (trailer-length e n)

  pub trailer-edition : e < 65536 → edition_of (x ++ trailer_of e n) ≡ e
  unfolding u16_at trailer_of
  trailer-edition l =
      let z : length (x ++ trailer_of e n) - 8 ≡ length x + 0 = omega (arith, all-length) in
      let y : length (x ++ trailer_of e n) - 8 + 1 ≡ length x + 1 = omega (arith, all-length) in
      let a : byte_at (x ++ trailer_of e n) (length (x ++ trailer_of e n) - 8) ≡ e % 256 = ap (byte_at (x ++ trailer_of e n)) z ∙ byte-behind x (trailer_of e n) 0 in
      let b : byte_at (x ++ trailer_of e n) (length (x ++ trailer_of e n) - 8 + 1) ≡ e / 256 % 256 = ap (byte_at (x ++ trailer_of e n)) y ∙ byte-behind x (trailer_of e n) 1 in
      omega (arith, a, b)

  pub trailer-count : n < 65536 → count_of (x ++ trailer_of e n) ≡ n
  unfolding u16_at trailer_of
  trailer-count l =
      let z : length (x ++ trailer_of e n) - 6 ≡ length x + 2 = omega (arith, all-length) in
      let y : length (x ++ trailer_of e n) - 6 + 1 ≡ length x + 3 = omega (arith, all-length) in
      let a : byte_at (x ++ trailer_of e n) (length (x ++ trailer_of e n) - 6) ≡ n % 256 = ap (byte_at (x ++ trailer_of e n)) z ∙ byte-behind x (trailer_of e n) 2 in
      let b : byte_at (x ++ trailer_of e n) (length (x ++ trailer_of e n) - 6 + 1) ≡ n / 256 % 256 = ap (byte_at (x ++ trailer_of e n)) y ∙ byte-behind x (trailer_of e n) 3 in
      omega (arith, a, b)

  pub trailer-distance : n < 65536 → distance_of (x ++ trailer_of e n) ≡ 20 * n + 8
  unfolding u32_at trailer_of
  trailer-distance l =
      let z : length (x ++ trailer_of e n) - 4 ≡ length x + 4 = omega (arith, all-length) in
      let y : length (x ++ trailer_of e n) - 4 + 1 ≡ length x + 5 = omega (arith, all-length) in
      let w : length (x ++ trailer_of e n) - 4 + 2 ≡ length x + 6 = omega (arith, all-length) in
      let v : length (x ++ trailer_of e n) - 4 + 3 ≡ length x + 7 = omega (arith, all-length) in
      let a : byte_at (x ++ trailer_of e n) (length (x ++ trailer_of e n) - 4) ≡ (20 * n + 8) % 256 = ap (byte_at (x ++ trailer_of e n)) z ∙ byte-behind x (trailer_of e n) 4 in
      let b : byte_at (x ++ trailer_of e n) (length (x ++ trailer_of e n) - 4 + 1) ≡ (20 * n + 8) / 256 % 256 = ap (byte_at (x ++ trailer_of e n)) y ∙ byte-behind x (trailer_of e n) 5 in
      let c : byte_at (x ++ trailer_of e n) (length (x ++ trailer_of e n) - 4 + 2) ≡ (20 * n + 8) / 65536 % 256 = ap (byte_at (x ++ trailer_of e n)) w ∙ byte-behind x (trailer_of e n) 6 in
      let d : byte_at (x ++ trailer_of e n) (length (x ++ trailer_of e n) - 4 + 3) ≡ (20 * n + 8) / 16777216 % 256 = ap (byte_at (x ++ trailer_of e n)) v ∙ byte-behind x (trailer_of e n) 7 in
      rw (a, b, c, d) (four-back (20 * n + 8) (omega arith))

-- n records of 20 bytes each and their trailer: the frame is right, and there is no comment
module _ (x : List ℕ) (n : ℕ) (size : length x ≡ 20 * n) (some : 1 ≤ n) (most : n ≤ 2000) where
  pub written-length : length (x ++ trailer_of 1 n) ≡ 20 * n + 8
  written-length = all-length x 1 n ∙ ap (λ (k : ℕ). k + 8) size

  pub written-first : first_of (x ++ trailer_of 1 n) ≡ 0
  written-first = let d = trailer-distance x 1 n (omega arith) in omega (arith, d, written-length)

  pub written-framed : framed (x ++ trailer_of 1 n) ≡ true
  unfolding framed
  written-framed =
      rw (
        trailer-edition x 1 n (omega arith),
        trailer-count x 1 n (omega arith),
        trailer-distance x 1 n (omega arith),
        written-length,
        le-leb 8 (20 * n + 8) (omega arith),
        le-leb 1 n some,
        le-leb n 2000 most,
        eq-eqb (20 * n + 8) (20 * n + 8) refl,
        le-leb (20 * n + 8) (20 * n + 8) (omega arith),
        le-leb (20 * n + 8 - (20 * n + 8)) 4096 (omega arith),
      ) refl

-- ---- a file with no comment

-- the bytes from k on are the n from there, and what stands behind them
drops : (f : List ℕ) (k n : ℕ) → k + n ≤ length f → drop k f ≡ list_from (byte_at f) k n ++ drop (k + n) f
drops f k zero l = ap (λ (i : ℕ). drop i f) {x = k} {y = k + 0} (omega arith)
drops f k (suc n) l =
    drop-cons f k 0 (omega arith)
    ∙ ap (λ (r : List ℕ). byte_at f k ∷ r) (drops f (suc k) n (omega arith) ∙ ap (λ (i : ℕ). list_from (byte_at f) (suc k) n ++ drop i f) {x = suc k + n} {y = k + suc n} (omega arith))

cons : {a b : ℕ} {x y : List ℕ} → a ≡ b → x ≡ y → a ∷ x ≡ b ∷ y
cons p q = ap₂ (λ (a : ℕ) (x : List ℕ). a ∷ x) p q

-- the bytes of a number
module _ (f : List ℕ) (bytes : (i : ℕ) → byte_at f i < 256) (i n : ℕ) where
  two : u16_at f i ≡ n → (byte_at f i ≡ n % 256) × (byte_at f (i + 1) ≡ n / 256 % 256)
  unfolding u16_at
  two e = let a = bytes i in let b = bytes (i + 1) in (omega (arith, e), omega (arith, e))

  four : u32_at f i ≡ n
      → (byte_at f i ≡ n % 256) × (byte_at f (i + 1) ≡ n / 256 % 256) × (byte_at f (i + 2) ≡ n / 65536 % 256) × (byte_at f (i + 3) ≡ n / 16777216 % 256)
  unfolding u32_at
  four e =
      let a = bytes i in
      let b = bytes (i + 1) in
      let c = bytes (i + 2) in
      let d = bytes (i + 3) in
      (omega (arith, e), omega (arith, e), omega (arith, e), omega (arith, e))

module _ (f : List ℕ) (bytes : (i : ℕ) → byte_at f i < 256) (ok : framed f ≡ true) (bare : first_of f ≡ 0) where
  -- how long it is
  bare-frame : (edition_of f ≡ 1) × (1 ≤ count_of f) × (count_of f ≤ 2000) × (distance_of f ≡ 20 * count_of f + 8) × (length f ≡ 20 * count_of f + 8)
  unfolding framed
  bare-frame =
      let a = both _ (leb (first_of f) 4096) ok in
      let b = both _ (leb (distance_of f) (length f)) a.0 in
      let c = both _ (eqb (distance_of f) (20 * count_of f + 8)) b.0 in
      let d = both _ (leb (count_of f) 2000) c.0 in
      let g = both (leb 8 (length f) && eqb (edition_of f) 1) (leb 1 (count_of f)) d.0 in
      let h = both (leb 8 (length f)) (eqb (edition_of f) 1) g.0 in
      let is : distance_of f ≡ 20 * count_of f + 8 = eqb-true _ _ c.1 in
      let in-file : distance_of f ≤ length f = leb-true _ _ b.1 in
      (eqb-true _ _ h.1, leb-true _ _ g.1, leb-true _ _ d.1, is, omega (arith, is, in-file, bare))

  pub bare-length : length f ≡ 20 * count_of f + 8
  bare-length = bare-frame.4

  -- the eight bytes of the trailer
  bare-trailer : drop (20 * count_of f) f ≡ trailer_of 1 (count_of f)
  unfolding trailer_of
  bare-trailer =
      let size : length f ≡ 20 * count_of f + 8 = bare-frame.4 in
      let at : (i j m : ℕ) → j ≡ i → byte_at f i ≡ m → byte_at f j ≡ m = λ i j m z e. ap (byte_at f) z ∙ e in
      let e = two f bytes (length f - 8) 1 bare-frame.0 in
      let n = two f bytes (length f - 6) (count_of f) refl in
      let d = four f bytes (length f - 4) (20 * count_of f + 8) bare-frame.3 in
      drops f (20 * count_of f) 8 (omega (arith, size))
      ∙ ap (λ (r : List ℕ). list_from (byte_at f) (20 * count_of f) 8 ++ r) (drop_of_length-le f {i = 20 * count_of f + 8} (omega (arith, size)))
      ∙ cons (at _ _ _ (omega (arith, size)) e.0)
      (cons (at _ _ _ (omega (arith, size)) e.1)
      (cons (at _ _ _ (omega (arith, size)) n.0)
      (cons (at _ _ _ (omega (arith, size)) n.1)
      (cons (at _ _ _ (omega (arith, size)) d.0)
      (cons (at _ _ _ (omega (arith, size)) d.1)
      (cons (at _ _ _ (omega (arith, size)) d.2)
      (cons (at _ _ _ (omega (arith, size)) d.3)
      refl)))))))

  -- it is its records and the trailer of as many
  pub bare-file : f ≡ take (20 * count_of f) f ++ trailer_of 1 (count_of f)
  bare-file = sym (take-append-drop (20 * count_of f) f) ∙ ap (λ (r : List ℕ). take (20 * count_of f) f ++ r) bare-trailer
