-- One turn of the loop that goes through the records: the run stops at a record that 2 or 3 refuses, after END, or where no record is left; else it goes
-- on. Assumes nothing.
use Prim.Native.Nat.{ℕ, suc, ◌+◌, ◌*◌, ◌≤◌, ◌<◌}
use mathlib.Core.Bool.{Bool, true, false, not}
use mathlib.Core.List.{List}
use mathlib.Core.Path.{◌≡◌, sym, ap, ◌∙◌}
use native.Mathlib.Omega.{arith}
use borrow.Author.Tests.{not-true, not-false, eq-eqb, ne_eqb}
use Rattle.ec20.specs.Devices.{ec20}
use Rattle.ec20.specs.File.{byte_at, record_from, records_as}
use Rattle.torn.proofs.Stops.{Open, open_none, open_more, stops-bad, stops_end, stops-all}
use Rattle.torn.specs.Kept.{passes, kept, kept_of}
use Rattle.torn.specs.declared.Kept.{Kept}

-- the run goes on over the first k records of the file t
abbrev pub On : List ℕ → ℕ → Type 0
On t k = Open ec20 1 (λ j. record_from t (0 + 20 * j)) k

pub on_none : (t : List ℕ) → On t 0
on_none t = open_none ec20 1 (λ j. record_from t (0 + 20 * j))

-- what is promised of the first n
abbrev pub KeptOf : List ℕ → ℕ → Kept → Type 0
KeptOf t n r = (r ≡ kept_of ec20 (records_as 1 t 0 n)) × (r.count ≤ n) × (r.added ≤ 1)

-- no record is left
pub on-all : (t : List ℕ) (n k : ℕ) → On t k → k ≡ n → KeptOf t n (kept k 1)
on-all t n k o e = rw e (sym (stops-all ec20 1 (λ j. record_from t (0 + 20 * j)) n (rw e at o)), omega arith, omega arith)

-- record k: whether it passes, and the byte of its number
module _ (t : List ℕ) (n k m : ℕ) (x : Bool) (o : On t k) (l : k < n) (test : x ≡ passes ec20 (record_from t (20 * k))) where
  place : record_from t (20 * k) ≡ record_from t (0 + 20 * k)
  place = ap (record_from t) (omega arith)

  passing : (b : Bool) → x ≡ b → passes ec20 (record_from t (0 + 20 * k)) ≡ b
  passing b e = ap (passes ec20) (sym place) ∙ sym test ∙ e

  -- it does not
  pub on-bad : not x ≡ true → KeptOf t n (kept k 1)
  on-bad e = (sym (stops-bad ec20 1 (λ j. record_from t (0 + 20 * j)) n k o l (passing false (not-true _ e))), omega arith, omega arith)

  module _ (good : not x ≡ false) (is : m ≡ byte_at t (20 * k)) where
    number_is : m ≡ (record_from t (0 + 20 * k)).number
    unfolding record_from
    number_is = is ∙ ap (byte_at t) (omega arith)

    -- it is END
    pub on-end : m ≡ 23 → KeptOf t n (kept (k + 1) 0)
    on-end e =
        let q : suc k ≡ k + 1 = omega arith in
        (ap (λ (i : ℕ). kept i 0) (sym q) ∙ sym (stops_end ec20 1 (λ j. record_from t (0 + 20 * j)) n k o l (passing true (not-false _ good)) (eq-eqb _ _ (sym number_is ∙ e))), omega arith, omega arith)

    -- it is none
    pub on-more : (m ≡ 23 → ⊥) → On t (k + 1)
    on-more e = open_more ec20 1 (λ j. record_from t (0 + 20 * j)) k o (passing true (not-false _ good)) (ne_eqb _ _ (λ z. e (number_is ∙ z)))
