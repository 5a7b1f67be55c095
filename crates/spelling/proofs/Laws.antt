-- What is known of digits, numbers and lines by their definitions, and what the calls of each function give together. Assumes nothing.
use mathlib.Core.Path.{◌≡◌, refl, sym, ◌∙◌, ap, subst}
use mathlib.Core.Bool.{Bool, true, false, not, ◌&&◌, ◌||◌}
use mathlib.Core.List.{List}
use Prim.Native.Nat.{ℕ, zero, suc, ◌+◌, ◌-◌, ◌*◌, ◌^◌, ◌<◌, ◌≤◌}
use native.Mathlib.Decide.{dec_lt}
use native.Mathlib.Nat.{pow-suc, pow-le-pow_right, lt_of_lt_of_le}
use native.Mathlib.Numerals.{add-one}
use native.Mathlib.Omega.{arith}
use lib.ListN.{length, get_or-eq_default}
use lib.Dec.{ltb, leb, eqb}
use borrow.Author.Tests.{ltb-true, ltb-false, leb-true, eqb-true, eqb-false, lt-ltb, le-ltb, eq-eqb, ne_eqb}
use Rattle.std.specs.Prelude.{Some}
use Rattle.ec20.proofs.Some.{some_at, at_some}
use Rattle.ec20.proofs.Tests.{both, neither, is_false}
use Rattle.ec20.specs.Basics.{pick, some_from}
use Rattle.units.specs.Spelling.{line_feed, byte_in, is_digit, digit_of, digits_of, wrong, number_at}
use Rattle.units.specs.Text.{named, line_by_length, line_by_start, line_at}
use Rattle.units.specs.declared.Digits.{Digits}
use Rattle.units.specs.Number.{Number}
use Rattle.units.specs.Number as N
use Rattle.units.specs.Line.{Line}
use Rattle.units.specs.Line as L
use Rattle.spelling.proofs.Parts.{got, parted}
use Rattle.spelling.specs.Part.{part_by, part_at}
use Rattle.spelling.specs.Bounds.{NumberIn, PartIn, LineIn}

-- a byte that is not 0 stands within the text
pub stands : (s : List ℕ) (i b : ℕ) → b ≡ byte_in s i → 0 < b → i < length s
stands s i b e h =
    elim (dec_lt i (length s)) [
      | yes g ↦ g
      | no g ↦ let z : b ≡ 0 = e ∙ get_or-eq_default s 0 (omega arith) in absurd (omega arith)
    ]

-- ---- digits

-- the ways out of `digit`: b is the byte that was read
module _ (s : List ℕ) (d : Digits) (b : ℕ) (e : b ≡ byte_in s d.next) where
  pub digit-none : is_digit b ≡ false → d ≡ digit_of s d
  unfolding digit_of
  digit-none h = rw (sym e, h)

  pub digit-more : is_digit b ≡ true → record { value = d.value * 10 + (b - 48); next = d.next + 1 } ≡ digit_of s d
  unfolding digit_of
  digit-more h = rw (sym e, h)

-- what one digit more adds at most
pub record Longer (d e : Digits) : Type 0 where
  pub value : e.value ≤ d.value * 10 + 9
  pub after : d.next ≤ e.next
  pub by_one : e.next ≤ d.next + 1

pub digit-longer : (s : List ℕ) (d : Digits) → Longer d (digit_of s d)
unfolding digit_of
digit-longer s d = go (is_digit (byte_in s d.next)) refl
  where
    go : (t : Bool) → is_digit (byte_in s d.next) ≡ t
        → Longer d (pick t (record { value = d.value * 10 + (byte_in s d.next - 48); next = d.next + 1 }) d)
    go true e =
        let h : byte_in s d.next ≤ 57 = leb-true _ _ (both (leb 48 (byte_in s d.next)) _ e).1 in
        record { value = omega arith; after = omega arith; by_one = omega arith }
    go false e = record { value = omega arith; after = omega arith; by_one = omega arith }

-- n digits at most: below 10 ^ n, and where they end
pub digits_value : (s : List ℕ) (from n : ℕ) → (digits_of s from n).value < 10 ^ n
unfolding digits_of
digits_value s from zero = omega arith
digits_value s from (suc n) =
    let d = digits_of s from n in
    let l : (digit_of s d).value ≤ d.value * 10 + 9 = (digit-longer s d).value in
    let h : d.value < 10 ^ n = digits_value s from n in
    rw (pow-suc 10 n) (omega arith)

pub digits-next : (s : List ℕ) (from n : ℕ) → (from ≤ (digits_of s from n).next) × ((digits_of s from n).next ≤ from + n)
unfolding digits_of
digits-next s from zero = (omega arith, omega arith)
digits-next s from (suc n) =
    let d = digits_of s from n in
    let l = digit-longer s d in
    let h = digits-next s from n in
    (omega (arith, l.after, h.0), omega (arith, l.by_one, h.1))

pub digits-fit : (s : List ℕ) (from n : ℕ) → n ≤ 11 → (digits_of s from n).value < 100000000000
digits-fit s from n h = lt_of_lt_of_le (digits_value s from n) (pow-le-pow_right (omega arith) h)

-- a turn of the loop
pub digits_more : (s : List ℕ) (from k : ℕ) (d e : Digits) → d ≡ digits_of s from k → e ≡ digit_of s d → e ≡ digits_of s from (k + 1)
unfolding digits_of
digits_more s from k d e h g = rw (add-one k) (g ∙ ap (digit_of s) h)

-- ---- a number

or-true : (a b : Bool) → (a || true) || b ≡ true
or-true true b = refl
or-true false b = refl

or-last : (a : Bool) → a || true ≡ true
or-last true = refl
or-last false = refl

-- the ways out of `number`: d are the digits, and z is the first byte
module _ (s : List ℕ) (from most k z : ℕ) (d : Digits) (l : k ≤ 11) (u : 11 ≤ k) (dk : d ≡ digits_of s from k) (ez : z ≡ byte_in s from) where
  all_digits : d ≡ digits_of s from 11
  all_digits = let e : k ≡ 11 = omega arith in rw e at dk

  by_test : (t : Bool) → wrong s from most d ≡ t → pick t N.Misspelt (Some d) ≡ number_at s from most
  unfolding number_at
  by_test t e = rw (sym all_digits, e)

  pub number-empty : d.next ≡ from → N.Misspelt ≡ number_at s from most
  number-empty h = by_test true (rw (eq-eqb _ _ h))

  pub number-zero : z ≡ 48 → 1 < d.next - from → N.Misspelt ≡ number_at s from most
  number-zero h g =
      by_test true (rw (sym ez, eq-eqb z 48 h, lt-ltb (from + 1) d.next (let j : from + 1 < d.next = omega arith in j)) (or-true (eqb d.next from) (ltb most d.value)))

  pub number-over : most < d.value → N.Misspelt ≡ number_at s from most
  number-over h = by_test true (rw (lt-ltb most d.value h) (or-last (eqb d.next from || (eqb (byte_in s from) 48 && ltb (from + 1) d.next))))

  zero_ahead : (z ≡ 48 → 1 < d.next - from → ⊥) → eqb (byte_in s from) 48 && ltb (from + 1) d.next ≡ false
  zero_ahead h =
      is_false (eqb (byte_in s from) 48 && ltb (from + 1) d.next) (λ e. let g = both (eqb (byte_in s from) 48) _ e in
      let i : from + 1 < d.next = ltb-true _ _ g.1 in h (ez ∙ eqb-true _ _ g.0) (omega arith))

  pub number-spelt : (d.next ≡ from → ⊥) → (z ≡ 48 → 1 < d.next - from → ⊥) → d.value ≤ most → Some d ≡ number_at s from most
  number-spelt h g i = by_test false (rw (ne_eqb _ _ h, zero_ahead g, le-ltb most d.value i))

pub number_in : (s : List ℕ) (from most : ℕ) → NumberIn from most (number_at s from most)
unfolding number_at
number_in s from most = go (wrong s from most (digits_of s from 11)) refl
  where
    go : (t : Bool) → wrong s from most (digits_of s from 11) ≡ t
        → NumberIn from most (pick t N.Misspelt (N.Spelt (digits_of s from 11).value (digits_of s from 11).next))
    go true e = tt
    go false e =
        let d = digits_of s from 11 in
        let q = neither (eqb d.next from || (eqb (byte_in s from) 48 && ltb (from + 1) d.next)) _ e in
        let n = digits-next s from 11 in
        let v : d.value ≤ most = ltb-false _ _ q.1 in
        let o : d.next ≡ from → ⊥ = eqb-false _ _ (neither (eqb d.next from) _ q.0).0 in
        (v, omega (arith, o, n.0), omega (arith, n.1))

-- ---- a name

module _ (s : List ℕ) (from : ℕ) where
  -- the ways out of `name_at`
  pub name-past : length s ≤ from + 8 → false ≡ named s from
  unfolding named
  name-past h = sym (is_false _ (λ e. let g = both (not (some_from (λ (i : ℕ). eqb (byte_in s i) line_feed) from 8)) _ e in
      let l : from + 8 < length s = stands s (from + 8) 32 (sym (eqb-true _ _ g.1)) (omega arith) in omega arith))

  pub name-broken : (i : ℕ) → from ≤ i → i < from + 8 → byte_in s i ≡ 10 → false ≡ named s from
  unfolding named
  name-broken i l u e = rw (at_some (λ (i : ℕ). eqb (byte_in s i) line_feed) from 8 i l u (eq-eqb _ _ e))

  pub name-whole : ((i : ℕ) → from ≤ i → i < from + 8 → byte_in s i ≡ 10 → ⊥) → eqb (byte_in s (from + 8)) 32 ≡ named s from
  unfolding named
  name-whole h =
      rw (is_false (some_from (λ (i : ℕ). eqb (byte_in s i) line_feed) from 8)
      (λ e. let j = some_at (λ (i : ℕ). eqb (byte_in s i) line_feed) from 8 e in h j.0 j.1 j.2 (eqb-true _ _ j.3)))

  -- a name and its blank stand within the text
  pub named_in : named s from ≡ true → from + 8 < length s
  unfolding named
  named_in e =
      let g = both (not (some_from (λ (i : ℕ). eqb (byte_in s i) line_feed) from 8)) _ e in
      stands s (from + 8) 32 (sym (eqb-true _ _ g.1)) (omega arith)

-- ---- a line

-- the line by its parts
line-by-length : (s : List ℕ) (a : ℕ) (x : Number) → line_by_length s a x ≡ got (part_by s 10 x) (λ n f. L.Spelt a n f)
line-by-length s a N.Misspelt = refl
line-by-length s a (Some w) = parted s 10 w.value w.next (λ n f. L.Spelt a n f)

line-by-start : (s : List ℕ) (most : ℕ) (x : Number) → line_by_start s most x ≡ got (part_by s 32 x) (λ a e. got (part_at s e most 10) (λ n f. L.Spelt a n f))
unfolding part_at
line-by-start s most N.Misspelt = refl
line-by-start s most (Some w) =
    ap (λ (y : Line). pick (eqb (byte_in s w.next) 32) y L.Misspelt) (line-by-length s w.value (number_at s (w.next + 1) most))
    ∙ parted s 32 w.value w.next (λ a e. got (part_at s e most 10) (λ n f. L.Spelt a n f))

-- the ways out of `line`: x is the first part behind the name, y the one behind that
module _ (s : List ℕ) (from most : ℕ) where
  pub line-unnamed : named s from ≡ false → L.Misspelt ≡ line_at s from most
  unfolding line_at
  line-unnamed h = rw h

  module _ (h : named s from ≡ true) (x : Number) (ex : x ≡ part_at s (from + 9) most 32) where
    by_parts : got x (λ a e. got (part_at s e most 10) (λ n f. L.Spelt a n f)) ≡ line_at s from most
    unfolding line_at part_at
    by_parts = rw (h, line-by-start s most (number_at s (from + 9) most), sym ex)

    pub start-misspelt : x ≡ N.Misspelt → L.Misspelt ≡ line_at s from most
    start-misspelt g = rw g at by_parts

    module _ (a e : ℕ) (xs : x ≡ N.Spelt a e) (y : Number) (ey : y ≡ part_at s e most 10) where
      by_end : got y (λ n f. L.Spelt a n f) ≡ line_at s from most
      by_end = rw (sym ey) at (rw xs at by_parts)

      pub length-misspelt : y ≡ N.Misspelt → L.Misspelt ≡ line_at s from most
      length-misspelt g = rw g at by_end

      pub line-spelt : (n f : ℕ) → y ≡ N.Spelt n f → L.Spelt a n f ≡ line_at s from most
      line-spelt n f g = rw g at by_end

      -- a line ends in the text, behind its name
      pub line-in : (n f : ℕ) → y ≡ N.Spelt n f → PartIn (length s) (from + 9) most x → PartIn (length s) e most y → LineIn (length s) from most (L.Spelt a n f)
      line-in n f g p q =
          let i = subst (PartIn (length s) (from + 9) most) xs p in
          let j = subst (PartIn (length s) e most) g q in
          (i.0, j.0, omega (arith, i.1, j.1), j.2)
