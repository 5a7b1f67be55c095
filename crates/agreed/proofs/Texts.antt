-- WHICH PART IS HANDED BACK: handed-back, first-line. Their statements are in specs/Agreed.antt. Assumes nothing.
use Prim.Native.Nat.{ℕ, zero, suc, ◌+◌, ◌-◌, ◌*◌, ◌≤◌, ◌<◌}
use mathlib.Core.Bool.{Bool, true, false, not}
use mathlib.Core.List.{List, []}
use mathlib.Core.Logic.{◌⊎◌, inl, inr}
use mathlib.Core.Path.{◌≡◌, refl, sym, ap, subst, ◌∙◌}
use native.Mathlib.Decide.{ℕ_discrete, dec_lt}
use native.Mathlib.Omega.{arith}
use lib.Dec.{leb, eqb}
use lib.ListN.{length, take, get_or-eq_default}
use borrow.Author.Tests.{lt-ltb, le-ltb, leb-true, eqb-true, eqb-false, not-true}
use Rattle.std.specs.Prelude.{Some}
use Rattle.ec20.proofs.Some.{none-at}
use Rattle.ec20.proofs.Tests.{both}
use Rattle.ec20.specs.Basics.{pick, some_from}
use Rattle.units.specs.Spelling.{blank, line_feed, byte_in, is_digit, digit_of, digits_of, wrong, number_at}
use Rattle.units.specs.Text.{named, line_by_length, line_by_start, line_at, first_line, longer_by, longer_of}
use Rattle.units.specs.declared.Digits.{Digits}
use Rattle.units.specs.Line.{Line}
use Rattle.units.specs.Line as L
use Rattle.units.specs.Number.{Number}
use Rattle.units.specs.Number as N
use Rattle.agreed.specs.Agreed.{HandedBack, FirstLine}

-- ---- which part

second : (a b : List ℕ) (s m e t n f : ℕ) → first_line a ≡ L.Spelt s m e → first_line b ≡ L.Spelt t n f → m < n → longer_of a b ≡ take f b
unfolding longer_of
second a b s m e t n f x y l = let g : m < n = omega arith in rw (x, y, lt-ltb m n g) refl

first : (a b : List ℕ) (s m e t n f : ℕ) → first_line a ≡ L.Spelt s m e → first_line b ≡ L.Spelt t n f → n ≤ m → longer_of a b ≡ take e a
unfolding longer_of
first a b s m e t n f x y l = let g : n ≤ m = omega arith in rw (x, y, le-ltb m n g) refl

nothing : (a b : List ℕ) (x : Line) → longer_by a b x L.Misspelt ≡ []
nothing a b L.Misspelt = refl
nothing a b (Some w) = refl

misspelt : (a b : List ℕ) → (first_line a ≡ L.Misspelt) ⊎ (first_line b ≡ L.Misspelt) → longer_of a b ≡ []
unfolding longer_of
misspelt a b (inl e) = rw e refl
misspelt a b (inr e) = ap (longer_by a b (first_line a)) e ∙ nothing a b (first_line a)

pub handed-back : (a b : List ℕ) → HandedBack a b
handed-back a b = record { second = second a b; first = first a b; misspelt = misspelt a b }

-- ---- the bytes of a line

-- byte i is no line feed
abbrev NoFeed : List ℕ → ℕ → Type 0
NoFeed s i = byte_in s i ≡ line_feed → ⊥

-- those from one place to another are none
abbrev NoFeeds : List ℕ → ℕ → ℕ → Type 0
NoFeeds s from to = (i : ℕ) → from ≤ i → i < to → NoFeed s i

digit-no-feed : (s : List ℕ) (i : ℕ) → is_digit (byte_in s i) ≡ true → NoFeed s i
digit-no-feed s i e f = omega (arith, leb-true 48 (byte_in s i) (both (leb 48 (byte_in s i)) (leb (byte_in s i) 57) e).0, f)

blank-no-feed : (s : List ℕ) (i : ℕ) → eqb (byte_in s i) blank ≡ true → NoFeed s i
blank-no-feed s i e f = omega (arith, eqb-true (byte_in s i) blank e, f)

-- one digit more
digit-more : (s : List ℕ) (from : ℕ) (d : Digits) → NoFeeds s from d.next → (t : Bool) → is_digit (byte_in s d.next) ≡ t
    → NoFeeds s from (pick t (record { value = d.value * 10 + (byte_in s d.next - 48); next = d.next + 1 }) d).next
digit-more s from d h true e i l u =
    elim (ℕ_discrete i d.next) [
      | yes z ↦ digit-no-feed s i (ap (λ (k : ℕ). is_digit (byte_in s k)) z ∙ e)
      | no z ↦ h i l (omega arith)
    ]
digit-more s from d h false e i l u = h i l u

digits : (s : List ℕ) (from n : ℕ) → NoFeeds s from (digits_of s from n).next
unfolding digits_of digit_of
digits s from zero i l u = absurd (omega arith)
digits s from (suc n) i l u = digit-more s from (digits_of s from n) (digits s from n) (is_digit (byte_in s (digits_of s from n).next)) refl i l u

-- the place behind a number that is spelt
number-end : (t : Bool) (d : Digits) (a e : ℕ) → pick t N.Misspelt (N.Spelt d.value d.next) ≡ N.Spelt a e → d.next ≡ e
number-end true d a e h = let z : ◌≡◌ {A = ℕ} 0 1 = cc in absurd (omega arith)
number-end false d a e h = cc

number : (s : List ℕ) (from most a e : ℕ) → number_at s from most ≡ N.Spelt a e → NoFeeds s from e
unfolding number_at
number s from most a e h =
    subst (NoFeeds s from) (number-end (wrong s from most (digits_of s from 11)) (digits_of s from 11) a e h) (digits s from 11)

-- ---- a line that is spelt

-- the length and the end of a line
abbrev length_in : Line → ℕ
length_in L.Misspelt = 0
length_in (Some w) = w.length

abbrev end_in : Line → ℕ
end_in L.Misspelt = 0
end_in (Some w) = w.next

-- the length was read as this: a number up to the line feed, which is behind it
by_length : (s : List ℕ) (x : Number) (a m n e : ℕ) → line_by_length s a x ≡ L.Spelt m n e → (k : ℕ) × (x ≡ N.Spelt n k) × (e ≡ k + 1) × (byte_in s k ≡ line_feed)
by_length s N.Misspelt a m n e h = let z : ◌≡◌ {A = ℕ} 0 1 = cc in absurd (omega arith)
by_length s (Some w) a m n e h = go (eqb (byte_in s w.next) line_feed) refl h
  where
    go : (t : Bool) → eqb (byte_in s w.next) line_feed ≡ t → pick t (L.Spelt a w.value (w.next + 1)) L.Misspelt ≡ L.Spelt m n e → (j : ℕ) × (N.Spelt w.value w.next ≡ N.Spelt n j) × (e ≡ j + 1) × (byte_in s j ≡ line_feed)
    go true q g = (w.next, ap (λ (y : ℕ). N.Spelt y w.next) (ap length_in g), sym (ap end_in g), eqb-true _ _ q)
    go false q g = let z : ◌≡◌ {A = ℕ} 0 1 = cc in absurd (omega arith)

-- the start was read as this: a number up to a blank
by-start : (s : List ℕ) (most : ℕ) (x : Number) (m n e : ℕ) → line_by_start s most x ≡ L.Spelt m n e
    → (a : ℕ) × (k : ℕ) × (x ≡ N.Spelt a k) × (eqb (byte_in s k) blank ≡ true) × (line_by_length s a (number_at s (k + 1) most) ≡ L.Spelt m n e)
by-start s most N.Misspelt m n e h = let z : ◌≡◌ {A = ℕ} 0 1 = cc in absurd (omega arith)
by-start s most (Some w) m n e h = go (eqb (byte_in s w.next) blank) refl h
  where
    go : (t : Bool) → eqb (byte_in s w.next) blank ≡ t → pick t (line_by_length s w.value (number_at s (w.next + 1) most)) L.Misspelt ≡ L.Spelt m n e
        → (c : ℕ) × (j : ℕ) × (N.Spelt w.value w.next ≡ N.Spelt c j) × (eqb (byte_in s j) blank ≡ true) × (line_by_length s c (number_at s (j + 1) most) ≡ L.Spelt m n e)
    go true q g = (w.value, w.next, refl, q, g)
    go false q g = let z : ◌≡◌ {A = ℕ} 0 1 = cc in absurd (omega arith)

by_name : (t : Bool) (x : Line) (m n e : ℕ) → pick t x L.Misspelt ≡ L.Spelt m n e → (t ≡ true) × (x ≡ L.Spelt m n e)
by_name true x m n e h = (refl, h)
by_name false x m n e h = let z : ◌≡◌ {A = ℕ} 0 1 = cc in absurd (omega arith)

name : (s : List ℕ) (from : ℕ) → named s from ≡ true → NoFeeds s from (from + 9)
unfolding named
name s from h i l u =
    let q = both (not (some_from (λ (k : ℕ). eqb (byte_in s k) line_feed) from 8)) (eqb (byte_in s (from + 8)) blank) h in
    elim (dec_lt i (from + 8)) [
      | yes z ↦ eqb-false _ _ (none-at (λ (k : ℕ). eqb (byte_in s k) line_feed) from 8 (not-true _ q.0) i l z)
      | no z ↦ let d : i ≡ from + 8 = omega arith in blank-no-feed s i (ap (λ (k : ℕ). eqb (byte_in s k) blank) d ∙ q.1)
    ]

-- a line that begins at a place: its line feed is the byte ahead of its end, and there is none before it
line : (s : List ℕ) (from most m n e : ℕ) → line_at s from most ≡ L.Spelt m n e → (k : ℕ) × (e ≡ k + 1) × (byte_in s k ≡ line_feed) × NoFeeds s from k
unfolding line_at
line s from most m n e h =
    let x = by_name (named s from) (line_by_start s most (number_at s (from + 9) most)) m n e h in
    let y = by-start s most (number_at s (from + 9) most) m n e x.1 in
    let z = by_length s (number_at s (y.1 + 1) most) y.0 m n e y.4 in (
      z.0,
      z.2,
      z.3,
      λ i l u.
          elim (dec_lt i (from + 9)) [
            | yes a ↦ name s from x.0 i l a
            | no a ↦ elim (dec_lt i y.1) [
              | yes b ↦ number s (from + 9) most y.0 y.1 y.2 i (omega arith) b
              | no b ↦ elim (ℕ_discrete i y.1) [
                | yes c ↦ blank-no-feed s i (ap (λ (j : ℕ). eqb (byte_in s j) blank) c ∙ y.3)
                | no c ↦ number s (y.1 + 1) most n z.0 z.1 i (omega arith) u
              ]
            ]
          ],
    )

-- a line feed does not stand past the end of a text
feed-inside : (s : List ℕ) (i : ℕ) → byte_in s i ≡ line_feed → i < length s
feed-inside s i e =
    elim (dec_lt i (length s)) [ yes z ↦ z | no z ↦ absurd (omega (arith, e, get_or-eq_default s 0 {n = i} (omega arith))) ]

pub first-line : (a : List ℕ) → FirstLine a
first-line a s m e h =
    let g = line a 0 8000 s m e h in
    let k : ℕ = g.0 in
    let d : e ≡ k + 1 = g.1 in
    let f : byte_in a k ≡ line_feed = g.2 in
    let u : k < length a = feed-inside a k f in
    record {
      some = omega arith;
      inside = omega arith;
      ends = ap (byte_in a) {x = e - 1} {y = k} (omega arith) ∙ f;
      no_other = λ i l. g.3 i (omega arith) (omega arith);
    }
