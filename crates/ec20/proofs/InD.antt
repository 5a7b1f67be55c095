-- What the check allows of an operand in D: the place is one for words, the extent lies in D, and by the table it has a word. Assumes nothing.
use Prim.Native.Nat.{ℕ, ◌+◌, ◌≤◌}
use mathlib.Core.Bool.{Bool, true, false, not, ◌&&◌, ◌||◌, and-false, or-false}
use mathlib.Core.Path.{◌≡◌, refl, sym, ap₂, subst, ◌∙◌}
use lib.Dec.{leb, eqb}
use borrow.Author.Tests.{leb-true, le-leb, eqb-true, eq-eqb}
use Rattle.ec20.proofs.EachRow.{row-test}
use Rattle.ec20.proofs.Tests.{both, each, differ, implied}
use Rattle.ec20.specs.declared.Operand.{Operand}
use Rattle.ec20.specs.declared.Place.{Place}
use Rattle.ec20.specs.Devices.{Device, kind_d, limit_of}
use Rattle.ec20.specs.Operands.{plain, in_range, one_of, constant_in, group_in, words_in, is_unused, is_bit_read, is_bit_written, is_source, is_target, allowed, in_d, start_of, extent_of}
use Rattle.ec20.specs.Table.{table, row_of}
use Rattle.ec20.specs.Roles.{role_is, role_source, role_target, role_changed, role_quotient}

-- a place for words: a source, a target, a target that is also read, a quotient
abbrev pub is_word : Place → Bool
is_word p = role_is role_source p || role_is role_target p || role_is role_changed p || role_is role_quotient p

and-of-or : (a b t : Bool) → (a && t || b && t) ≡ ((a || b) && t)
and-of-or true b true = refl
and-of-or true true false = refl
and-of-or true false false = refl
and-of-or false b t = refl

-- an operand in D, with its kind written out
pub allowed-D : (v : Device) (p : Place) (g a : ℕ)
    → allowed v p (record { kind = kind_d; group = g; value = a }) ≡ (is_word p && (eqb g 0 && leb (a + p.extent) v.words))
unfolding allowed is_unused is_bit_read is_bit_written is_source is_target one_of constant_in group_in words_in in_range limit_of
allowed-D v p g a = simp (and-false, or-false, and-of-or)

-- An operand has words in D exactly if it is of the kind D. By this, and the laws below, the theorems know `in_d`, `start_of` and `extent_of`.
pub in-kind : (o : Operand) → in_d o ≡ true → o.kind ≡ kind_d
unfolding in_d
in-kind o k = eqb-true _ _ k

pub kind-in : (o : Operand) → o.kind ≡ kind_d → in_d o ≡ true
unfolding in_d
kind-in o k = eq-eqb _ _ k

-- words in D do not hang on the value
pub in-D-value : (o : Operand) (a : ℕ) → in_d (record { kind = o.kind; group = o.group; value = a }) ≡ in_d o
unfolding in_d
in-D-value o a = refl

module _ (v : Device) (p : Place) (o : Operand) where
  abbrev inside-D : Bool
  inside-D = plain o && leb (o.value + p.extent) v.words

  by_kind : o.kind ≡ kind_d → allowed v p o ≡ (is_word p && inside-D)
  by_kind k =
      subst (λ (i : ℕ). allowed v p (record { kind = i; group = o.group; value = o.value }) ≡ (is_word p && inside-D)) (sym k)
      (allowed-D v p o.group o.value)

  -- allowed and in D
  module _ (k : in_d o ≡ true) (e : allowed v p o ≡ true) where
    tests : (is_word p ≡ true) × (inside-D ≡ true)
    tests = both _ _ (sym (by_kind (in-kind o k)) ∙ e)

    pub at-word : is_word p ≡ true
    at-word = tests.0

    pub extent-in : start_of o + extent_of p o ≤ v.words
    unfolding start_of extent_of
    extent-in = leb-true _ _ (both (plain o) _ tests.1).1

    -- with another number, whose extent lies in D too, it is allowed too
    pub other-number : (a : ℕ) → a + extent_of p o ≤ v.words → allowed v p (record { kind = o.kind; group = o.group; value = a }) ≡ true
    unfolding extent_of
    other-number a h =
        subst (λ (i : ℕ). allowed v p (record { kind = i; group = o.group; value = a }) ≡ true) (sym (in-kind o k))
        (allowed-D v p o.group a ∙ ap₂ ◌&&◌ at-word (ap₂ ◌&&◌ (both (plain o) _ tests.1).0 (le-leb _ _ h)))

  -- at a place that is not for words no operand in D is allowed
  pub not-in-D : is_word p ≡ false → allowed v p o ≡ true → in_d o ≡ true → ⊥
  not-in-D n e k = differ (sym (at-word k e) ∙ n)

-- ---- by the table, a place for words takes a word at least

abbrev some : Place → Bool
some p = not (is_word p) || leb 1 p.extent

some-places : (n : ℕ) → (some (row_of n).first && some (row_of n).second && some (row_of n).third) ≡ true
unfolding table
some-places n = row-test (λ n w. some w.first && some w.second && some w.third) (λ n. refl) refl n

-- so does an operand in D that is allowed there
a_word : (v : Device) (p : Place) (o : Operand) → some p ≡ true → in_d o ≡ true → allowed v p o ≡ true → 1 ≤ extent_of p o
unfolding extent_of
a_word v p o e k h = leb-true _ _ (implied (is_word p) (leb 1 p.extent) e (at-word v p o k h))

module _ (v : Device) (n : ℕ) (o : Operand) (k : in_d o ≡ true) where
  places : (some (row_of n).first ≡ true) × (some (row_of n).second ≡ true) × (some (row_of n).third ≡ true)
  places = each (some (row_of n).first) (some (row_of n).second) (some (row_of n).third) (some-places n)

  pub first_word : allowed v (row_of n).first o ≡ true → 1 ≤ extent_of (row_of n).first o
  first_word h = a_word v (row_of n).first o places.0 k h

  pub second_word : allowed v (row_of n).second o ≡ true → 1 ≤ extent_of (row_of n).second o
  second_word h = a_word v (row_of n).second o places.1 k h

  pub third-word : allowed v (row_of n).third o ≡ true → 1 ≤ extent_of (row_of n).third o
  third-word h = a_word v (row_of n).third o places.2 k h
