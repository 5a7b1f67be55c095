-- The loops that a record stands in, along a row: the same at its level, more inside its loops, and none again that was left.
use Prim.Native.Nat.{ℕ, zero, suc, ◌+◌, ◌<◌, ◌≤◌}
use mathlib.Core.List.{List, [], ◌∷◌}
use mathlib.Core.Path.{◌≡◌, refl, ◌∙◌}
use native.Mathlib.Omega.{arith}
use native.Mathlib.Numerals.{add-one}
use native.Mathlib.Decide.{ℕ_discrete, dec_le}
use lib.ListN.{length}
use Rattle.ec20.specs.declared.Control.{Control}
use Rattle.ec20.specs.declared.Control.TheVariants.{Plain, Opens, Closes, Jumps, Marks, Ends}
use Rattle.ec20.specs.Control.{Controls}
use Rattle.ec20.specs.Labels.{rest, opens_after, opens_of}
use Rattle.bound.proofs.Rows.{Steady, Seq, empty, plain, loop}

-- lists of records below a number, and lists that lack one
abbrev pub Below : ℕ → List ℕ → Type 0
Below n [] = Unit {0}
Below n (x ∷ l) = (x < n) × Below n l

abbrev pub Lacks : ℕ → List ℕ → Type 0
Lacks h [] = Unit {0}
Lacks h (x ∷ l) = (x ≡ h → ⊥) × Lacks h l

below_more : (n : ℕ) (l : List ℕ) → Below n l → Below (suc n) l
below_more n [] b = tt
below_more n (x ∷ l) b = let h : x < n = b.0 in (omega arith, below_more n l b.1)

pub below-lacks : (n h : ℕ) (l : List ℕ) → n ≤ h → Below n l → Lacks h l
below-lacks n h [] p b = tt
below-lacks n h (x ∷ l) p b = let q : x < n = b.0 in (λ e. omega arith, below-lacks n h l p b.1)

below_rest : (n : ℕ) (l : List ℕ) → Below n l → Below n (rest l)
unfolding rest
below_rest n [] b = tt
below_rest n (x ∷ l) b = b.1

lacks_rest : (h : ℕ) (l : List ℕ) → Lacks h l → Lacks h (rest l)
unfolding rest
lacks_rest h [] b = tt
lacks_rest h (x ∷ l) b = b.1

below-after : (i : Control) (k : ℕ) (l : List ℕ) → Below k l → Below (suc k) (opens_after i k l)
unfolding opens_after
below-after Plain k l b = below_more k l b
below-after (Opens n) k l b = (omega arith, below_more k l b)
below-after Closes k l b = below_more k (rest l) (below_rest k l b)
below-after (Jumps m) k l b = below_more k l b
below-after (Marks m) k l b = below_more k l b
below-after Ends k l b = below_more k l b

lacks-after : (i : Control) (h k : ℕ) (l : List ℕ) → h < k → Lacks h l → Lacks h (opens_after i k l)
unfolding opens_after
lacks-after Plain h k l p b = b
lacks-after (Opens n) h k l p b = (λ e. omega arith, b)
lacks-after Closes h k l p b = lacks_rest h l b
lacks-after (Jumps m) h k l p b = b
lacks-after (Marks m) h k l p b = b
lacks-after Ends h k l p b = b

pub opens-below : (code : Controls) (k : ℕ) → Below k (opens_of code k)
unfolding opens_of
opens-below code zero = tt
opens-below code (suc k) = below-after (code k) k (opens_of code k) (opens-below code k)

-- a loop that was left is not entered again
pub left_behind : (code : Controls) (h s n : ℕ) → h < s → Lacks h (opens_of code s) → Lacks h (opens_of code (n + s))
unfolding opens_of
left_behind code h s zero p b = let e : 0 + s ≡ s = omega arith in rw e b
left_behind code h s (suc n) p b =
    let e : suc n + s ≡ suc (n + s) = omega arith in
    rw e (lacks-after (code (n + s)) h (n + s) (opens_of code (n + s)) (omega arith) (left_behind code h s n p b))

module _ (code : Controls) where
  open_step : (k : ℕ) → opens_of code (k + 1) ≡ opens_after (code k) k (opens_of code k)
  unfolding opens_of
  open_step k = rw add-one

  pub open-steady : (k : ℕ) → Steady (code k) → opens_of code (k + 1) ≡ opens_of code k
  unfolding opens_after
  open-steady k o = open_step k ∙ go (code k) o
    where
      go : (i : Control) → Steady i → opens_after i k (opens_of code k) ≡ opens_of code k
      go Plain o = refl
      go (Opens n) o = absurd o
      go Closes o = absurd o
      go (Jumps l) o = refl
      go (Marks l) o = refl
      go Ends o = absurd o

  pub open_for : (k n : ℕ) → code k ≡ Opens n → opens_of code (k + 1) ≡ k ∷ opens_of code k
  unfolding opens_after
  open_for k n q = open_step k ∙ rw q

  pub open_next : (k h : ℕ) (t : List ℕ) → code k ≡ Closes → opens_of code k ≡ h ∷ t → opens_of code (k + 1) ≡ t
  unfolding opens_after rest
  open_next k h t q e = open_step k ∙ rw (q, e)

  -- along a row the open loops are the same
  pub row_opens : {d k e w : ℕ} → Seq code d k e w → opens_of code e ≡ opens_of code k
  row_opens empty = refl
  row_opens (plain {k = k} o t) = row_opens t ∙ open-steady k o
  row_opens (loop {k = k} {b = b} {n = n} q x r s t) = row_opens t ∙ open_next b k (opens_of code k) x (row_opens s ∙ open_for k n q)

  -- and after a loop those before it
  pub loop-opens : {d k b n v : ℕ} → code k ≡ Opens n → code b ≡ Closes → Seq code d (k + 1) b v → opens_of code (b + 1) ≡ opens_of code k
  loop-opens {k = k} {b = b} {n = n} q x s = open_next b k (opens_of code k) x (row_opens s ∙ open_for k n q)

  -- and inside never fewer
  pub row-deep : {d k e w : ℕ} → Seq code d k e w → (j : ℕ) → k ≤ j → j ≤ e → length (opens_of code k) ≤ length (opens_of code j)
  row-deep {k = k} empty j p q = let a : j ≡ k = omega arith in rw a (omega arith)
  row-deep {k = k} (plain o t) j p q =
      elim (ℕ_discrete j k) [ yes a ↦ rw a (omega arith) | no a ↦ rw (open-steady k o) at (row-deep t j (omega arith) q) ]
  row-deep {k = k} (loop {b = b} {n = n} g x r s t) j p q =
      elim (ℕ_discrete j k) [
        | yes a ↦ rw a (omega arith)
        | no a ↦
            elim (dec_le j b) [
              | yes h ↦
                  let y : length (k ∷ opens_of code k) ≤ length (opens_of code j) = rw (open_for k n g) at (row-deep s j (omega arith) h) in
                  omega arith
              | no h ↦ rw (loop-opens g x s) at (row-deep t j (omega arith) q)
            ]
      ]
