-- One turn of the loops: of the search in a loop body, and of the search for the first record that passes a test. Assumes nothing.
use lib.Dec.{eqb}
use mathlib.Core.Bool.{Bool, true, false}
use mathlib.Core.Path.{◌≡◌, refl, sym, ap, ◌∙◌}
use native.Mathlib.Omega.{arith}
use Prim.Native.Nat.{ℕ, suc, ◌+◌, ◌-◌, ◌<◌, ◌≤◌}
use Rattle.ec20.proofs.Tests.{picked}
use Rattle.ec20.proofs.Walkers.{search-turn}
use Rattle.ec20.specs.Basics.{pick, first_at}
use Rattle.ec20.specs.Control.{Controls, closes, marks, search_body, found_in_body}
use Rattle.ec20.specs.Walkers.{shift_of, turn_of, by_turn}
use Rattle.ec20.specs.declared.Control.TheVariants.{Plain, Opens, Closes, Jumps, Marks, Ends}
use Rattle.ec20.specs.declared.Control.{Control}
use Rattle.ec20.specs.Found.{At, Nowhere}
use Rattle.ec20.specs.declared.Turn.TheVariants.{Hit, Stop, On}
use Rattle.ec20.specs.declared.Turn.{Turn}
use Rattle.ec20.specs.Labels.{label_fault}
use Rattle.labels.specs.Want.{want_of}
use Rattle.labels.specs.declared.Want.{Want}
use Rattle.labels.specs.declared.Want.TheVariants.{Close, Place}

-- the search from record i on, which is d deep, by what the record does to it
module _ (want : Control → Bool) (code : Controls) (i d n : ℕ) where
  step : i < n → found_in_body code n want d i ≡ by_turn (turn_of (want (code i)) (code i) d) i (λ j. found_in_body code n want j (i + 1))
  step h = let e : n - i ≡ suc (n - (i + 1)) = omega arith in ap (λ (k : ℕ). search_body code want d i k) e ∙ search-turn code want d i (n - (i + 1))

  -- record i is the one
  pub hit : {r : Turn} {x : Control} → i < n → x ≡ code i → r ≡ turn_of (want x) x d → r ≡ Hit → At i ≡ found_in_body code n want d i
  unfolding by_turn
  hit h q e g = let o : turn_of (want (code i)) (code i) d ≡ Hit = sym (rw q at e) ∙ g in sym (step h ∙ rw o)

  -- record i ends the body
  pub stop : {r : Turn} {x : Control} → i < n → x ≡ code i → r ≡ turn_of (want x) x d → r ≡ Stop → Nowhere ≡ found_in_body code n want d i
  unfolding by_turn
  stop h q e g = let o : turn_of (want (code i)) (code i) d ≡ Stop = sym (rw q at e) ∙ g in sym (step h ∙ rw o)

  -- the search goes on, j deep
  pub on : {r : Turn} {x : Control} {j : ℕ} → i < n → x ≡ code i → r ≡ turn_of (want x) x d → r ≡ On j → found_in_body code n want d i ≡ found_in_body code n want j (i + 1)
  unfolding by_turn
  on {j = j} h q e g = let o : turn_of (want (code i)) (code i) d ≡ On j = sym (rw q at e) ∙ g in step h ∙ rw o

  -- no record is left
  pub over : n ≤ i → Nowhere ≡ found_in_body code n want d i
  unfolding search_body
  over h = let e : n - i ≡ 0 = omega arith in rw e

-- a record that no search looks for: both kinds of search pass it
module _ (d : ℕ) where
  same-on : (b : Bool) (t : Turn) → t ≡ pick b t t
  same-on true t = refl
  same-on false t = refl

  pub plain-on : (w : Want) {i : Control} → i ≡ Plain → On d ≡ turn_of (want_of w i) i d
  unfolding turn_of shift_of closes marks
  plain-on Close e = rw e (same-on (eqb d 0) (On d))
  plain-on (Place l) e = rw e (same-on (eqb d 0) (On d))

  pub opens-on : (w : Want) {i : Control} {n : ℕ} → i ≡ Opens n → On (d + 1) ≡ turn_of (want_of w i) i d
  unfolding turn_of shift_of closes marks
  opens-on Close e = rw e (same-on (eqb d 0) (On (d + 1)))
  opens-on (Place l) e = rw e (same-on (eqb d 0) (On (d + 1)))

  pub jumps-on : (w : Want) {i : Control} {m : ℕ} → i ≡ Jumps m → On d ≡ turn_of (want_of w i) i d
  unfolding turn_of shift_of closes marks
  jumps-on Close e = rw e (same-on (eqb d 0) (On d))
  jumps-on (Place l) e = rw e (same-on (eqb d 0) (On d))

  pub ends_on : (w : Want) {i : Control} → i ≡ Ends → On d ≡ turn_of (want_of w i) i d
  unfolding turn_of shift_of closes marks
  ends_on Close e = rw e (same-on (eqb d 0) (On d))
  ends_on (Place l) e = rw e (same-on (eqb d 0) (On d))

-- the search goes at most one deeper
unfoldable Near : ℕ → Turn → Type 0
Near d Hit = Unit {0}
Near d Stop = Unit {0}
Near d (On j) = j ≤ d + 1

near-shift : (i : Control) (d : ℕ) → Near d (shift_of i d)
unfolding Near shift_of
near-shift Plain d = omega arith
near-shift (Opens n) d = omega arith
near-shift Closes d = picked (Near d) (eqb d 0) Stop (On (d - 1)) (λ _. tt) (λ _. omega arith)
near-shift (Jumps l) d = omega arith
near-shift (Marks l) d = omega arith
near-shift Ends d = omega arith

near-turn : (b : Bool) (i : Control) (d : ℕ) → Near d (turn_of b i d)
unfolding turn_of Near
near-turn b i d = picked (Near d) (eqb d 0) _ _ (λ _. picked (Near d) b _ _ (λ _. tt) (λ _. near-shift i d)) (λ _. near-shift i d)

pub near : (b : Bool) (i : Control) (d : ℕ) {r : Turn} {j : ℕ} → r ≡ turn_of b i d → r ≡ On j → j ≤ d + 1
unfolding Near
near b i d {j = j} e g = let o : turn_of b i d ≡ On j = sym e ∙ g in rw o at (near-turn b i d)

-- the first record from i on that passes a test
module _ (test : ℕ → Bool) (i n : ℕ) where
  first_step : i < n → first_at test i (n - i) ≡ pick (test i) (At i) (first_at test (i + 1) (n - (i + 1)))
  unfolding first_at
  first_step h = let e : n - i ≡ suc (n - (i + 1)) = omega arith in ap (λ (k : ℕ). first_at test i k) e

  -- record i passes
  pub passes : {b : Bool} → i < n → b ≡ test i → b ≡ true → At i ≡ first_at test i (n - i)
  passes h e g = let o : test i ≡ true = sym e ∙ g in sym (first_step h ∙ rw o)

  -- it does not: on to the next
  pub fails : {b : Bool} → i < n → b ≡ test i → b ≡ false → first_at test i (n - i) ≡ first_at test (i + 1) (n - (i + 1))
  fails h e g = let o : test i ≡ false = sym e ∙ g in first_step h ∙ rw o

  -- no record is left
  pub none : n ≤ i → Nowhere ≡ first_at test i (n - i)
  unfolding first_at
  none h = let e : n - i ≡ 0 = omega arith in rw e

-- a record's fault, by what it was read as
pub as-told : (code : Controls) (n k : ℕ) {x i : Control} {b : Bool} → x ≡ code k → x ≡ i → b ≡ label_fault code n k i → b ≡ label_fault code n k (code k)
as-told code n k q g e = e ∙ ap (label_fault code n k) (sym g ∙ q)
