-- The numbers of the table's word instructions, by their width. Assumes nothing.
use Prim.Native.Nat.{ℕ, ◌≤◌}
use mathlib.Core.Bool.{Bool, true, false, not, ◌&&◌, ◌||◌}
use mathlib.Core.List.{List}
use mathlib.Core.Path.{◌≡◌, refl, sym}
use borrow.Author.Tests.{leb-true, le-leb, eq-eqb, ne_eqb, eqb-true}
use lib.Dec.{eqb, leb}
use Rattle.ec20.proofs.Tests.{both, differ}
use Rattle.ec20.specs.Step.{width_of}
use Rattle.ec20.specs.Table.{table, row_of}
use Rattle.ec20.specs.Forms.{is_word_form, form_three}
use Rattle.instructions.proofs.Rows.{every_below, at_every}
use Rattle.outcomes.specs.Done.{WordAt}

-- a word instruction of w bits has a number from a to z
abbrev within : ℕ → ℕ → ℕ → ℕ → Bool
within w a z n = not (is_word_form (row_of n).form && eqb (width_of n) w) || (leb a n && leb n z)

abbrev Between : ℕ → ℕ → ℕ → Type 0
Between a z n = (a ≤ n) × (n ≤ z)

-- of a test that holds where two others do
where-both : (p q : Bool) {b : Bool} → p ≡ true → q ≡ true → (not (p && q) || b) ≡ true → b ≡ true
where-both true true f g h = h
where-both true false f g h = differ (sym g)
where-both false q f g h = differ (sym f)

-- computed over the rows of the table
numbers : (w a z : ℕ) → every_below (within w a z) 56 ≡ true → {n i : ℕ} {f : List ℕ} → WordAt w n i f → Between a z n
numbers w a z every {n} h = between (at_every (within w a z) 56 every n h.known)
  where
    between : within w a z n ≡ true → Between a z n
    between e =
        let p = both (leb a n) (leb n z) (where-both (is_word_form (row_of n).form) (eqb (width_of n) w) h.form (eq-eqb _ _ h.width) e) in
        (leb-true a n p.0, leb-true n z p.1)

pub of-16 : {n i : ℕ} {f : List ℕ} → WordAt 16 n i f → (32 ≤ n) × (n ≤ 40)
unfolding row_of table
of-16 h = numbers 16 32 40 refl h

pub of-32 : {n i : ℕ} {f : List ℕ} → WordAt 32 n i f → (48 ≤ n) × (n ≤ 55)
unfolding row_of table
of-32 h = numbers 32 48 55 refl h

-- 16 bits, or 32
two : every_below (λ n. not (is_word_form (row_of n).form && not (eqb (width_of n) 16)) || eqb (width_of n) 32) 56 ≡ true
unfolding row_of table
two = refl

pub not_16 : {n i : ℕ} {f : List ℕ} → WordAt (width_of n) n i f → (width_of n ≡ 16 → ⊥) → WordAt 32 n i f
not_16 {n} h e =
    let g = at_every (λ n. not (is_word_form (row_of n).form && not (eqb (width_of n) 16)) || eqb (width_of n) 32) 56 two n h.known in
    record {
      known = h.known;
      form = h.form;
      width = eqb-true _ _ (where-both (is_word_form (row_of n).form) (not (eqb (width_of n) 16)) h.form (rw (ne_eqb _ _ e) refl) g);
      near = h.near;
      room = h.room;
    }

pub is-16 : {n i : ℕ} {f : List ℕ} → WordAt (width_of n) n i f → width_of n ≡ 16 → WordAt 16 n i f
is-16 h e = record { known = h.known; form = h.form; width = e; near = h.near; room = h.room }
