-- Where the run of records that are kept stops, record by record, and that nothing behind it counts. Assumes nothing.
use Prim.Native.Nat.{ℕ, zero, suc, ◌+◌, ◌≤◌, ◌<◌}
use mathlib.Core.Bool.{Bool, true, false, not}
use mathlib.Core.Path.{◌≡◌, refl, sym, ap, subst, ◌∙◌}
use native.Mathlib.Decide.{dec_lt}
use native.Mathlib.Omega.{arith}
use Rattle.bound.proofs.First.{no-first, First, first-at}
use Rattle.ec20.proofs.Tests.{differ}
use Rattle.ec20.specs.Basics.{first_at}
use Rattle.ec20.specs.Devices.{Device}
use Rattle.ec20.specs.File.{Records}
use Rattle.ec20.specs.Found.{Found}
use Rattle.ec20.specs.Found.{At, Nowhere}
use Rattle.ec20.specs.declared.Rec.{Rec}
use Rattle.torn.specs.Kept.{passes, ahead, run_of, is_end, end_of, kept, stop_at, kept_of}

-- ---- the first number that passes a test

-- a search that gives k
pub found : (test : ℕ → Bool) (n k : ℕ) → k < n → test k ≡ true → ((j : ℕ) → j < k → test j ≡ false) → first_at test 0 n ≡ At k
found test n k l t none = go (first_at test 0 n) refl
  where
    go : (x : Found) → first_at test 0 n ≡ x → first_at test 0 n ≡ At k
    go Nowhere e = differ (sym t ∙ no-first test n 0 e k (omega arith) (omega arith))
    go (At i) e = let f = first-at test n 0 i e in same i f e
      where
        same : (i : ℕ) → First test n 0 i → first_at test 0 n ≡ At i → first_at test 0 n ≡ At k
        same i f e =
            elim (dec_lt i k) [
              | yes a ↦ differ (sym f.passes ∙ none i a)
              | no a ↦ elim (dec_lt k i) [
                | yes b ↦ differ (sym t ∙ f.none k (omega arith) b)
                | no b ↦ e ∙ ap At (omega arith)
              ]
            ]

-- and one that gives none
pub nothing : (test : ℕ → Bool) (n : ℕ) → ((j : ℕ) → j < n → test j ≡ false) → first_at test 0 n ≡ Nowhere
nothing test n none = go (first_at test 0 n) refl
  where
    go : (x : Found) → first_at test 0 n ≡ x → first_at test 0 n ≡ Nowhere
    go Nowhere e = e
    go (At i) e = let f = first-at test n 0 i e in differ (sym f.passes ∙ none i (omega (arith, f.high)))

-- ---- records

-- n records of the edition e
abbrev pub these : ℕ → (ℕ → Rec) → ℕ → Records
these e at n = record { edition = e; count = n; at = at }

module _ (v : Device) (e : ℕ) (at : ℕ → Rec) where
  -- the first k records pass, and none of them is END: the run goes on
  pub record Open (k : ℕ) : Type 0 where
    pub pass : (j : ℕ) → j < k → passes v (at j) ≡ true
    pub no_end : (j : ℕ) → j < k → is_end (at j) ≡ false

  pub open_none : Open 0
  open_none = record { pass = λ j l. absurd (omega arith); no_end = λ j l. absurd (omega arith) }

  pub open_more : (k : ℕ) → Open k → passes v (at k) ≡ true → is_end (at k) ≡ false → Open (k + 1)
  open_more k o p q =
      record {
        pass = λ j l. elim (dec_lt j k) [ yes a ↦ o.pass j a | no a ↦ subst (λ (i : ℕ). passes v (at i) ≡ true) (let z : k ≡ j = omega arith in z) p ];
        no_end = λ j l. elim (dec_lt j k) [ yes a ↦ o.no_end j a | no a ↦ subst (λ (i : ℕ). is_end (at i) ≡ false) (let z : k ≡ j = omega arith in z) q ];
      }

  -- the run of n records that all pass is n
  run-all : (n : ℕ) → ((j : ℕ) → j < n → passes v (at j) ≡ true) → run_of v (these e at n) ≡ n
  unfolding run_of
  run-all n p = ap (ahead n) (nothing (λ k. not (passes v (at k))) n (λ j l. ap not (p j l)))

  -- and that of n records of which the first that does not pass is k
  run-to : (n k : ℕ) → k < n → ((j : ℕ) → j < k → passes v (at j) ≡ true) → passes v (at k) ≡ false → run_of v (these e at n) ≡ k
  unfolding run_of
  run-to n k l p f = ap (ahead n) (found (λ i. not (passes v (at i))) n k l (ap not f) (λ j m. ap not (p j m)))

  -- where the first n pass, the run is at least n
  run-least : (n m : ℕ) → n ≤ m → ((j : ℕ) → j < n → passes v (at j) ≡ true) → n ≤ run_of v (these e at m)
  unfolding run_of
  run-least n m l p = go (first_at (λ k. not (passes v (at k))) 0 m) refl
    where
      go : (x : Found) → first_at (λ k. not (passes v (at k))) 0 m ≡ x → n ≤ ahead m x
      go Nowhere z = l
      go (At i) z =
          let f = first-at (λ k. not (passes v (at k))) m 0 i z in
          elim (dec_lt i n) [ yes a ↦ differ (sym f.passes ∙ ap not (p i a)) | no a ↦ omega arith ]

  -- record k does not pass: k are kept, and END is added
  pub stops-bad : (n k : ℕ) → Open k → k < n → passes v (at k) ≡ false → kept_of v (these e at n) ≡ kept k 1
  unfolding kept_of end_of
  stops-bad n k o l f =
      let r : run_of v (these e at n) ≡ k = run-to n k l o.pass f in
      ap (λ (m : ℕ). stop_at m (first_at (λ i. is_end (at i)) 0 m)) r
      ∙ ap (stop_at k) (nothing (λ i. is_end (at i)) k o.no_end)

  -- no record is left: all are kept, and END is added
  pub stops-all : (n : ℕ) → Open n → kept_of v (these e at n) ≡ kept n 1
  unfolding kept_of end_of
  stops-all n o =
      ap (λ (m : ℕ). stop_at m (first_at (λ i. is_end (at i)) 0 m)) (run-all n o.pass)
      ∙ ap (stop_at n) (nothing (λ i. is_end (at i)) n o.no_end)

  -- record k passes and is END: it is the last that is kept
  pub stops_end : (n k : ℕ) → Open k → k < n → passes v (at k) ≡ true → is_end (at k) ≡ true → kept_of v (these e at n) ≡ kept (suc k) 0
  unfolding kept_of end_of
  stops_end n k o l p q =
      let all : (j : ℕ) → j < suc k → passes v (at j) ≡ true = λ j m. elim (dec_lt j k) [ yes a ↦ o.pass j a | no a ↦ subst (λ (i : ℕ). passes v (at i) ≡ true) (let z : k ≡ j = omega arith in z) p ] in
      let r : suc k ≤ run_of v (these e at n) = run-least (suc k) n (omega arith) all in
      ap (stop_at (run_of v (these e at n))) (found (λ i. is_end (at i)) (run_of v (these e at n)) k (omega arith) q o.no_end)

  -- Of the first c records either the run stops at one of them, or it goes on over all.
  pub data Stop (c : ℕ) : Type 0 where
    bad : (k : ℕ) → k < c → Open k → passes v (at k) ≡ false → Stop c
    end : (k : ℕ) → k < c → Open k → passes v (at k) ≡ true → is_end (at k) ≡ true → Stop c
    on : Open c → Stop c

  pub stop : (c : ℕ) → Stop c
  stop zero = on open_none
  stop (suc c) = go (stop c)
    where
      go : Stop c → Stop (suc c)
      go (bad k l o f) = bad k (omega arith) o f
      go (end k l o p q) = end k (omega arith) o p q
      go (on o) = last (passes v (at c)) (is_end (at c)) refl refl
        where
          last : (a b : Bool) → passes v (at c) ≡ a → is_end (at c) ≡ b → Stop (suc c)
          last false b p q = bad c (omega arith) o p
          last true true p q = end c (omega arith) o p q
          last true false p q = on (subst Open (let z : c + 1 ≡ suc c = omega arith in z) (open_more c o p q))

  -- ---- of n records

  -- no more are kept than there are, and one END is added at most
  pub kept-most : (n : ℕ) → ((kept_of v (these e at n)).count ≤ n) × ((kept_of v (these e at n)).added ≤ 1)
  kept-most n = go (stop n)
    where
      go : Stop n → ((kept_of v (these e at n)).count ≤ n) × ((kept_of v (these e at n)).added ≤ 1)
      go (bad k l o f) = rw (stops-bad n k o l f) (omega arith, omega arith)
      go (end k l o p q) = rw (stops_end n k o l p q) (omega arith, omega arith)
      go (on o) = rw (stops-all n o) (omega arith, omega arith)

  -- where the run goes on over the first c, so many are kept at least
  pub kept-least : (c n : ℕ) → c ≤ n → Open c → c ≤ (kept_of v (these e at n)).count
  kept-least c n m o = go (stop n)
    where
      go : Stop n → c ≤ (kept_of v (these e at n)).count
      go (bad k l x f) = rw (stops-bad n k x l f) (elim (dec_lt k c) [ yes a ↦ differ (sym (o.pass k a) ∙ f) | no a ↦ omega arith ])
      go (end k l x p q) = rw (stops_end n k x l p q) (elim (dec_lt k c) [ yes a ↦ differ (sym q ∙ o.no_end k a) | no a ↦ omega arith ])
      go (on x) = rw (stops-all n x) m

  -- where the run stops within the first c, what follows plays no part
  pub data Same (c n : ℕ) : Type 0 where
    same : kept_of v (these e at c) ≡ kept_of v (these e at n) → Same c n
    goes_on : Open c → Same c n

  pub looked-at : (c n : ℕ) → c ≤ n → Same c n
  looked-at c n m = go (stop c)
    where
      go : Stop c → Same c n
      go (bad k l o f) = same (stops-bad c k o l f ∙ sym (stops-bad n k o (omega arith) f))
      go (end k l o p q) = same (stops_end c k o l p q ∙ sym (stops_end n k o (omega arith) p q))
      go (on o) = goes_on o
