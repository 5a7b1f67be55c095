-- The lines 9, 10, 11 and 12, and 9 and 14 of the exchange, as the definitions test them.
use Prim.Native.Nat.{ℕ, ◌+◌, ◌/◌, ◌≤◌, ◌<◌}
use mathlib.Core.Bool.{Bool, true, false, not, ◌&&◌}
use mathlib.Core.List.{List}
use mathlib.Core.Logic.{inl, inr}
use mathlib.Core.Path.{◌≡◌, refl}
use native.Mathlib.Omega.{arith}
use native.Mathlib.Decide.{dec_lt}
use lib.Dec.{ltb, leb, eqb}
use lib.IntN.{ℤ}
use lib.ListN.{length}
use borrow.Author.Tests.{ltb-true, ltb-false, leb-true, leb-false, eqb-true, eqb-false, not-true, not-false}
use Rattle.ec20.proofs.Tests.{both, each, one-fails}
use Rattle.ec20.specs.Judged.{Fine, Fault}
use Rattle.ec20.specs.Basics.{pick}
use Rattle.ec20.specs.Devices.{Device, meets, meets_work}
use Rattle.ec20.specs.Exchange.{size_fault, place_fault}
use Rattle.ec20.specs.Memory.{Memory, sized}
use Rattle.ec20.specs.Move.{Block, Pool, block_fault, pool_fault, block_work}
use Rattle.ec20.specs.Plant.{Plant, leftover_of, leftovers_fit}
use Rattle.ec20.specs.Scan.{fitting}
use Rattle.demands.specs.Lines.{Line9, Line10, Not10, Line11, Line12, Line9D, Line14D}
use Rattle.demands.specs.Lines.{size_x, size_y, size_m, size_sm, size_t, size_d, size_tv, size_rest, tens, hundreds, elapsed, empty, outside, start_above, end_above, in_work}
use Rattle.demands.specs.Lines.{outside as place-outside, in_block as place-in-block, in_work as place-in-work}
use Rattle.demands.proofs.Ranges.{not-both, in-common, common-meets, work-common, common-work}
use Rattle.refusals.proofs.Tells.{Tells, tells}

-- ---- 9, of the scan

module _ (v : Device) (e : ℕ) (q : Plant) where
  abbrev tables : Memory
  tables = q.mem

  -- the tests of the sizes, in their order, each with those before it
  abbrev X : Bool
  X = eqb (length tables.x) (v.x / 8)

  abbrev XY : Bool
  XY = X && eqb (length tables.y) (v.y / 8)

  abbrev XYM : Bool
  XYM = XY && eqb (length tables.m) (v.m / 8)

  abbrev XYMS : Bool
  XYMS = XYM && eqb (length tables.sm) (v.sm / 8)

  abbrev XYMST : Bool
  XYMST = XYMS && eqb (length tables.t) (v.t / 8)

  abbrev XYMSTD : Bool
  XYMSTD = XYMST && eqb (length tables.d) v.words

  missized : sized v tables ≡ false → Line9 v e q
  unfolding sized
  missized h =
      elim (one-fails XYMSTD (eqb (length tables.tv) v.t) h) [
        | inr z ↦ size_tv (eqb-false _ _ z)
        | inl z ↦
            elim (one-fails XYMST (eqb (length tables.d) v.words) z) [
              | inr z ↦ size_d (eqb-false _ _ z)
              | inl z ↦
                  elim (one-fails XYMS (eqb (length tables.t) (v.t / 8)) z) [
                    | inr z ↦ size_t (eqb-false _ _ z)
                    | inl z ↦
                        elim (one-fails XYM (eqb (length tables.sm) (v.sm / 8)) z) [
                          | inr z ↦ size_sm (eqb-false _ _ z)
                          | inl z ↦
                              elim (one-fails XY (eqb (length tables.m) (v.m / 8)) z) [
                                | inr z ↦ size_m (eqb-false _ _ z)
                                | inl z ↦
                                    elim (one-fails X (eqb (length tables.y) (v.y / 8)) z) [
                                      | inr z ↦ size_y (eqb-false _ _ z)
                                      | inl z ↦ size_x (eqb-false _ _ z)
                                    ]
                              ]
                        ]
                  ]
            ]
      ]

  -- those of the leftovers
  abbrev Two : Bool
  Two = eqb (length q.rest) 2

  abbrev Ten : Bool
  Ten = leb (leftover_of 10 q.rest) 9

  abbrev Hundred : Bool
  Hundred = leb (leftover_of 100 q.rest) 99

  others : leftovers_fit q.rest ≡ false → Line9 v e q
  unfolding leftovers_fit
  others h =
      elim (one-fails (Two && Ten) Hundred h) [
        | inr z ↦ let l : 99 < leftover_of 100 q.rest = leb-false _ _ z in hundreds (omega arith)
        | inl z ↦
            elim (one-fails Two Ten z) [
              | inr z ↦ let l : 9 < leftover_of 10 q.rest = leb-false _ _ z in tens (omega arith)
              | inl z ↦ size_rest (eqb-false _ _ z)
            ]
      ]

  pub misfit : fitting v e q ≡ false → Line9 v e q
  unfolding fitting
  misfit h =
      elim (one-fails (sized v tables && leftovers_fit q.rest) (leb e 10000) h) [
        | inr z ↦ let l : 10000 < e = leb-false _ _ z in elapsed (omega arith)
        | inl z ↦ elim (one-fails (sized v tables) (leftovers_fit q.rest) z) [ inr z ↦ others z | inl z ↦ missized z ]
      ]

  pub fits_all : fitting v e q ≡ true → Line9 v e q → ⊥
  unfolding fitting sized leftovers_fit
  fits_all h n =
      let a = each (sized v tables) (leftovers_fit q.rest) (leb e 10000) h in
      let r = each Two Ten Hundred a.1 in
      let tv = both XYMSTD (eqb (length tables.tv) v.t) a.0 in
      let d = both XYMST (eqb (length tables.d) v.words) tv.0 in
      let t = both XYMS (eqb (length tables.t) (v.t / 8)) d.0 in
      let sm = both XYM (eqb (length tables.sm) (v.sm / 8)) t.0 in
      let m = both XY (eqb (length tables.m) (v.m / 8)) sm.0 in
      let y = both X (eqb (length tables.y) (v.y / 8)) m.0 in
      go n (eqb-true _ _ y.0) (eqb-true _ _ y.1) (eqb-true _ _ m.1) (eqb-true _ _ sm.1) (eqb-true _ _ t.1) (eqb-true _ _ d.1) (eqb-true _ _ tv.1) (eqb-true _ _ r.0) (leb-true _ _ r.1) (leb-true _ _ r.2) (leb-true _ _ a.2)
    where
      go : Line9 v e q → length tables.x ≡ v.x / 8 → length tables.y ≡ v.y / 8 → length tables.m ≡ v.m / 8 → length tables.sm ≡ v.sm / 8 → length tables.t ≡ v.t / 8
          → length tables.d ≡ v.words → length tables.tv ≡ v.t → length q.rest ≡ 2 → leftover_of 10 q.rest ≤ 9 → leftover_of 100 q.rest ≤ 99 → e ≤ 10000 → ⊥
      go (size_x z) a b c d e f g h i j k = z a
      go (size_y z) a b c d e f g h i j k = z b
      go (size_m z) a b c d e f g h i j k = z c
      go (size_sm z) a b c d e f g h i j k = z d
      go (size_t z) a b c d e f g h i j k = z e
      go (size_d z) a b c d e f g h i j k = z f
      go (size_tv z) a b c d e f g h i j k = z g
      go (size_rest z) a b c d e f g h i j k = z h
      go (tens z) a b c d e f g h i j k = omega (arith, z, i)
      go (hundreds z) a b c d e f g h i j k = omega (arith, z, j)
      go (elapsed z) a b c d e f g h i j k = omega (arith, z, k)

-- ---- 10, 11, 12

module _ (v : Device) (b : Block) where
  bad-block : (ltb 0 b.length && leb (b.start + b.length) v.words) ≡ false → Line10 v b
  bad-block e =
      elim (one-fails (ltb 0 b.length) (leb (b.start + b.length) v.words) e) [
        | inl q ↦ let h : b.length ≤ 0 = ltb-false _ _ q in empty (omega arith)
        | inr q ↦ outside (leb-false _ _ q)
      ]

  good-block : (ltb 0 b.length && leb (b.start + b.length) v.words) ≡ true → Line10 v b → ⊥
  good-block e (empty z) = let h : 0 < b.length = ltb-true _ _ (both (ltb 0 b.length) _ e).0 in omega arith
  good-block e (outside z) = let h : b.start + b.length ≤ v.words = leb-true _ _ (both (ltb 0 b.length) _ e).1 in omega arith

  pub judged-10 : Tells 10 (Line10 v b) (block_fault v b)
  unfolding block_fault
  judged-10 = tells (ltb 0 b.length && leb (b.start + b.length) v.words) 10 (Line10 v b) good-block bad-block

  -- a block that 10 does not refuse has a word, and lies in D
  pub some_word : Not10 v b → 0 < b.length
  some_word h = elim (dec_lt 0 b.length) [ yes q ↦ q | no q ↦ absurd (h (empty (omega arith))) ]

  block_in : Not10 v b → b.start + b.length ≤ v.words
  block_in h = elim (dec_lt v.words (b.start + b.length)) [ yes q ↦ absurd (h (outside q)) | no q ↦ omega arith ]

  pub judged-12 : Not10 v b → Tells 12 (Line12 v b) (block_work v b)
  unfolding block_work
  judged-12 h = go (meets_work v b.start b.length) refl
    where
      go : (t : Bool) → meets_work v b.start b.length ≡ t → Tells 12 (Line12 v b) (pick t (Fault 12 0) Fine)
      go true e = (refl, refl, let s = work-common v b.start b.length (some_word h) (block_in h) e in in_work s.0 s.1 s.2)
      go false e = free
        where
          free : Line12 v b → ⊥
          free (in_work i x y) = not-both (common-work v b.start b.length i x y) e

pub judged-11 : (v : Device) (l : Pool) → Tells 11 (Line11 v l) (pool_fault v l)
unfolding pool_fault
judged-11 v l = tells (leb l.start l.end && leb l.end v.words) 11 (Line11 v l) good bad
  where
    good : (leb l.start l.end && leb l.end v.words) ≡ true → Line11 v l → ⊥
    good e (start_above z) = let h : l.start ≤ l.end = leb-true _ _ (both (leb l.start l.end) _ e).0 in omega arith
    good e (end_above z) = let h : l.end ≤ v.words = leb-true _ _ (both (leb l.start l.end) _ e).1 in omega arith

    bad : (leb l.start l.end && leb l.end v.words) ≡ false → Line11 v l
    bad e =
        elim (one-fails (leb l.start l.end) (leb l.end v.words) e) [
          | inl q ↦ start_above (leb-false _ _ q)
          | inr q ↦ end_above (leb-false _ _ q)
        ]

-- ---- 9 and 14 of the exchange

pub judged-9D : (v : Device) (d : List ℤ) → Tells 9 (Line9D v d) (size_fault v d)
unfolding size_fault
judged-9D v d = tells (eqb (length d) v.words) 9 (Line9D v d) (λ e h. h (eqb-true _ _ e)) (λ e. eqb-false _ _ e)

module _ (v : Device) (b : Block) (q : ℕ) (some : 0 < b.length) where
  abbrev Inside : Bool
  Inside = leb (q + b.length) v.words

  abbrev Apart : Bool
  Apart = not (meets q b.length b.start b.length)

  abbrev Off : Bool
  Off = not (meets_work v q b.length)

  good-place : (Inside && Apart && Off) ≡ true → Line14D v b q → ⊥
  good-place e n = go n (leb-true _ _ y.0) (not-true _ y.1) (not-true _ x.1)
    where
      x : ((Inside && Apart) ≡ true) × (Off ≡ true)
      x = both (Inside && Apart) Off e

      y : (Inside ≡ true) × (Apart ≡ true)
      y = both Inside Apart x.0

      go : Line14D v b q → q + b.length ≤ v.words → meets q b.length b.start b.length ≡ false → meets_work v q b.length ≡ false → ⊥
      go (place-outside z) h k m = omega (arith, z, h)
      go (place-in-block i z w) h k m = not-both (common-meets q b.length b.start b.length i z w) k
      go (place-in-work i z w) h k m = not-both (common-work v q b.length i z w) m

  bad-place : (Inside && Apart && Off) ≡ false → Line14D v b q
  bad-place e =
      elim (one-fails (Inside && Apart) Off e) [
        | inr z ↦
            elim (dec_lt v.words (q + b.length)) [
              | yes h ↦ place-outside h
              | no h ↦ let s = work-common v q b.length some (omega arith) (not-false _ z) in place-in-work s.0 s.1 s.2
            ]
        | inl z ↦
            elim (one-fails Inside Apart z) [
              | inl z ↦ place-outside (leb-false _ _ z)
              | inr z ↦ let s = in-common q b.length b.start b.length some some (not-false _ z) in place-in-block s.0 s.1 s.2
            ]
      ]

  pub judged-14D : Tells 14 (Line14D v b q) (place_fault v b q)
  unfolding place_fault
  judged-14D = tells (Inside && Apart && Off) 14 (Line14D v b q) good-place bad-place
