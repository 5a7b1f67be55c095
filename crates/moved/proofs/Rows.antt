-- What the table says of a form, computed over its rows.
use Prim.Native.Nat.{ℕ, ◌*◌, ◌≤◌}
use mathlib.Core.Bool.{Bool, true, false, not, ◌&&◌, ◌||◌}
use mathlib.Core.Path.{◌≡◌, refl}
use lib.Dec.{leb}
use borrow.Author.Tests.{leb-true, not-true}
use Rattle.ec20.proofs.EachRow.{every, row-test}
use Rattle.ec20.proofs.InD.{is_word}
use Rattle.ec20.proofs.Tests.{both, each, implied}
use Rattle.ec20.specs.Basics.{pick}
use Rattle.ec20.specs.declared.Form.{Form}
use Rattle.ec20.specs.declared.Place.{Place}
use Rattle.ec20.specs.declared.Row.{Row}
use Rattle.ec20.specs.Table.{table, unknown, row_of}
use Rattle.ec20.specs.Forms.{form_is, form_contact, form_coil, form_timer, form_for, form_jump, form_label, form_three, form_two, form_one}
use Rattle.ec20.specs.Step.{width_of}
use Rattle.ec20.specs.Words.{is}
use Rattle.moving.specs.Rename.{words_of, written_by}

-- of the rows of one form
abbrev of-form : Form → (ℕ → Row → Bool) → ℕ → Row → Bool
of-form form test n w = not (form_is w.form form) || test n w

form-test : (form : Form) (test : ℕ → Row → Bool) → ((n : ℕ) → of-form form test n unknown ≡ true) → every (of-form form test) 0 table ≡ true
    → (n : ℕ) → form_is (row_of n).form form ≡ true → test n (row_of n) ≡ true
form-test form test u e n = implied (form_is (row_of n).form form) (test n (row_of n)) (row-test (of-form form test) u e n)

-- ---- bits, timers, passes and labels do not stand at places for words

abbrev bare : Place → Bool
bare p = not (is_word p)

-- a form whose first operand is a bit, the passes or a label
abbrev pub has_bare : Form → Bool
has_bare form = form_is form form_contact || form_is form form_coil || form_is form form_for || form_is form form_jump || form_is form form_label

abbrev bare_first : ℕ → Row → Bool
bare_first n w = not (has_bare w.form) || bare w.first

abbrev bare_both : ℕ → Row → Bool
bare_both n w = bare w.first && bare w.second

module _ (n : ℕ) where
  pub bare-first : has_bare (row_of n).form ≡ true → is_word (row_of n).first ≡ false
  unfolding table
  bare-first e = not-true _ (implied _ _ (row-test bare_first (λ n. refl) refl n) e)

  pub timer-both : form_is (row_of n).form form_timer ≡ true → (is_word (row_of n).first ≡ false) × (is_word (row_of n).second ≡ false)
  unfolding table
  timer-both e =
      let h = both (bare (row_of n).first) (bare (row_of n).second) (form-test form_timer bare_both (λ n. refl) refl n e) in
      (not-true _ h.0, not-true _ h.1)

-- ---- the places of a word instruction take as many words as it reads and writes

-- a source in a row, and a target of number n in it
abbrev reads : Row → Place → Bool
reads w p = leb (words_of w.first.width) p.extent

abbrev writes : ℕ → Row → Place → Bool
writes n w p = leb (pick (is n 35 52) (2 * words_of w.first.width) (words_of w.first.width)) p.extent

-- the forms: two sources and a target; a source and a target; a target that is also read
abbrev wide_three : ℕ → Row → Bool
wide_three n w = reads w w.first && reads w w.second && writes n w w.third

abbrev wide_two : ℕ → Row → Bool
wide_two n w = reads w w.first && writes n w w.second

abbrev wide_one : ℕ → Row → Bool
wide_one n w = reads w w.first && writes n w w.first

module _ (n : ℕ) where
  -- the place takes as many words as a source has, as a target has
  abbrev Reads : Place → Type 0
  Reads p = words_of (width_of n) ≤ p.extent

  abbrev Writes : Place → Type 0
  Writes p = written_by n ≤ p.extent

  pub three-words : form_is (row_of n).form form_three ≡ true → Reads (row_of n).first × Reads (row_of n).second × Writes (row_of n).third
  unfolding table
  three-words e =
      let w = row_of n in
      let h = each (reads w w.first) (reads w w.second) (writes n w w.third) (form-test form_three wide_three (λ n. refl) refl n e) in
      (leb-true _ _ h.0, leb-true _ _ h.1, leb-true _ _ h.2)

  pub two-words : form_is (row_of n).form form_two ≡ true → Reads (row_of n).first × Writes (row_of n).second
  unfolding table
  two-words e =
      let w = row_of n in
      let h = both (reads w w.first) (writes n w w.second) (form-test form_two wide_two (λ n. refl) refl n e) in
      (leb-true _ _ h.0, leb-true _ _ h.1)

  pub one_word : form_is (row_of n).form form_one ≡ true → Reads (row_of n).first × Writes (row_of n).first
  unfolding table
  one_word e =
      let w = row_of n in
      let h = both (reads w w.first) (writes n w w.first) (form-test form_one wide_one (λ n. refl) refl n e) in
      (leb-true _ _ h.0, leb-true _ _ h.1)
