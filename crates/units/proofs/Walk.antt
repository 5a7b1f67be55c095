-- A walk over the lines of a text, whatever a line's entry is: what was read is kept in a room, and with what is to come it makes the whole. Assumes
-- nothing.
use Prim.Native.Nat.{ℕ, zero, suc, ◌+◌, ◌<◌, ◌≤◌}
use mathlib.Core.List.{List, [], ◌∷◌, ◌++◌, append-nil, append_assoc}
use mathlib.Core.Path.{◌≡◌, refl, sym, ap, ◌∙◌}
use native.Mathlib.Omega.{arith}
use lib.ListN.{length, get_or, set, take, length-append}
use borrow.Author.Tests.{lt-leb, le-leb}
use Rattle.ec20.specs.Judged.{Judged}
use Rattle.ec20.specs.Judged.{Fine, Fault}
use Rattle.units.specs.Kept.{kept_in}
use Rattle.units.specs.Reading.{Entry, misspelt, spelt, Read, read, next_of, read_by, read_from, lines_of}

-- ---- the room

module _ {A : Type 0} where
  pub kept-length : (b l : List A) → length (kept_in b l) ≡ length b
  unfolding kept_in
  kept-length [] l = refl
  kept-length (x ∷ b) [] = refl
  kept-length (x ∷ b) (a ∷ l) = ap suc (kept-length b l)

  -- no entry changes nothing
  pub kept-none : (b : List A) → kept_in b [] ≡ b
  unfolding kept_in
  kept-none [] = refl
  kept-none (x ∷ b) = refl

  -- one entry more, at the place after those of the list; past the room's end it is left out
  pub kept_more : (b l : List A) (a : A) → set (kept_in b l) (length l) a ≡ kept_in b (l ++ a ∷ [])
  unfolding kept_in
  kept_more [] l a = refl
  kept_more (x ∷ b) [] a = ap (λ (t : List A). a ∷ t) (sym (kept-none b))
  kept_more (x ∷ b) (e ∷ l) a = ap (λ (t : List A). e ∷ t) (kept_more b l a)

  -- what the room has is what the list has
  pub kept_at : (b l : List A) (i : ℕ) (y : A) → i < length b → i < length l → get_or (kept_in b l) i y ≡ get_or l i y
  unfolding kept_in
  kept_at [] l i y h g = absurd (omega arith)
  kept_at (x ∷ b) [] i y h g = absurd (omega arith)
  kept_at (x ∷ b) (a ∷ l) zero y h g = refl
  kept_at (x ∷ b) (a ∷ l) (suc i) y h g = kept_at b l i y (omega arith) (omega arith)

  -- a list that has room is its first places
  pub kept-all : (b l : List A) → length l ≤ length b → take (length l) (kept_in b l) ≡ l
  unfolding kept_in
  kept-all b [] h = refl
  kept-all [] (a ∷ l) h = absurd (omega arith)
  kept-all (x ∷ b) (a ∷ l) h = ap (λ (t : List A). a ∷ t) (kept-all b l (omega arith))

-- ---- the walk

-- these entries, and what was read after them
abbrev pub after : {A : Type 0} → List A → Read A → Read A
after l r = read r.fault (l ++ r.list)

-- The lines ahead of byte `from` of a text of n bytes were read: k of them, which t keeps in the room b, and what is to come makes the whole.
pub record Passed (A : Type 0) (at : ℕ → Entry A) (n : ℕ) (b : List A) (from k : ℕ) (t : List A) : Type 0 where
  pub l : List A
  pub m : ℕ
  pub count : length l ≡ k
  pub kept : t ≡ kept_in b l
  pub left : n ≤ from + m
  pub low : k ≤ from
  pub high : from ≤ n
  pub whole : lines_of at n ≡ after l (read_from at n m from k)

-- The walk is over: what was read has this judgement and k entries, which t keeps in the room b.
pub record Over (A : Type 0) (r : Read A) (b : List A) (j : Judged) (k : ℕ) (t : List A) : Type 0 where
  pub fault : r.fault ≡ j
  pub count : length r.list ≡ k
  pub kept : t ≡ kept_in b r.list

module _ {A : Type 0} (at : ℕ → Entry A) (n : ℕ) where
  pub passed_none : (b t : List A) → t ≡ kept_in b [] → Passed A at n b 0 0 t
  passed_none b t e = record { l = []; m = n; count = refl; kept = e; left = omega arith; low = omega arith; high = omega arith; whole = refl }

  -- the next line is read: the first of the m
  reads_on : (m from k : ℕ) (x : Entry A) → from < n → n ≤ from + m → at from ≡ x
      → (i : ℕ) × (m ≡ suc i) × (read_from at n m from k ≡ read_by k x (read_from at n i (next_of x) (k + 1)))
  unfolding read_from
  reads_on zero from k x h g ex = absurd (omega arith)
  reads_on (suc i) from k x h g ex = (i, refl, rw (lt-leb n from h, ex))

  -- past the end nothing is read
  reads_none : (m from k : ℕ) → n ≤ from → read_from at n m from k ≡ read Fine []
  unfolding read_from
  reads_none zero from k h = refl
  reads_none (suc m) from k h = rw (le-leb n from h)

  module _ (b : List A) (from k : ℕ) (t : List A) (w : Passed A at n b from k t) where
    pub passed-more : (a : A) (e : ℕ) (t' : List A) → from < n → at from ≡ spelt a e → from < e → e ≤ n → t' ≡ set t k a → Passed A at n b e (k + 1) t'
    passed-more a e t' h g l v et =
        let q = reads_on w.m from k (spelt a e) h w.left g in
        let mi : w.m ≡ suc q.0 = q.1 in
        record {
          l = w.l ++ a ∷ [];
          m = q.0;
          count = rw length-append (omega (arith, w.count));
          kept =
              et
              ∙ ap (λ (y : List A). set y k a) w.kept
              ∙ ap (λ (i : ℕ). set (kept_in b w.l) i a) (sym w.count)
              ∙ kept_more b w.l a;
          left = omega (arith, w.left);
          low = omega (arith, w.low);
          high = v;
          whole = w.whole ∙ ap (after w.l) q.2 ∙ rw append_assoc;
        }

    -- nothing is to come
    over_by : (j : Judged) → lines_of at n ≡ after w.l (read j []) → Over A (lines_of at n) b j k t
    over_by j e =
        let f : (lines_of at n).list ≡ w.l = ap (λ (r : Read A). r.list) e ∙ append-nil w.l in
        record { fault = ap (λ (r : Read A). r.fault) e; count = ap (λ (y : List A). length y) f ∙ w.count; kept = w.kept ∙ ap (kept_in b) (sym f) }

    pub passed-misspelt : from < n → at from ≡ misspelt → Over A (lines_of at n) b (Fault 15 k) k t
    passed-misspelt h g = let q = reads_on w.m from k misspelt h w.left g in over_by (Fault 15 k) (w.whole ∙ ap (after w.l) q.2)

    pub passed-all : n ≤ from → Over A (lines_of at n) b Fine k t
    passed-all h = over_by Fine (w.whole ∙ ap (after w.l) (reads_none w.m from k h))
