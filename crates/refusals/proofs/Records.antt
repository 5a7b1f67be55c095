-- 2, 3 and 4, as the check computes them and as the table says them.
use Prim.Native.Nat.{ℕ, zero, suc, ◌+◌, ◌<◌}
use mathlib.Core.Bool.{Bool, true, false, not, ◌&&◌}
use mathlib.Core.Path.{◌≡◌, refl, sym, ap₂, subst, ◌∙◌}
use native.Mathlib.Omega.{arith}
use lib.Dec.{eqb}
use borrow.Author.Tests.{eqb-true, eqb-false}
use Rattle.std.specs.Prelude.{Err}
use Rattle.ec20.specs.Judged.{Judged}
use Rattle.ec20.specs.Judged.{Fine, Fault}
use Rattle.ec20.specs.declared.Rec.{Rec}
use Rattle.ec20.specs.Basics.{pick, judged, first_fault}
use Rattle.ec20.specs.Devices.{Device}
use Rattle.ec20.specs.File.{Records}
use Rattle.ec20.specs.Operands.{is_known, operands_ok, target_in_work, fault_of, fault_in, first_bad}
use Rattle.ec20.specs.Table.{row_of}
use Rattle.ec20.proofs.Laws.{no-fault, the-first}
use Rattle.ec20.proofs.Parts.{refused-parts}
use Rattle.ec20.proofs.Tests.{both, differ}
use Rattle.refusals.specs.First.{First, Never}
use Rattle.refusals.specs.Records.{Line2, unknown, spare, Line3, Line4, Line2to4, by_2, by_3, by_4}
use Rattle.refusals.proofs.Search.{one-first}
use Rattle.refusals.proofs.Operands.{line-3, not-line-3}
use Rattle.refusals.proofs.Work.{line-4, not-line-4}

-- the line holds of a record exactly if it is not known
line-2 : (r : Rec) → is_known (row_of r.number) r ≡ false → Line2 r
unfolding is_known
line-2 r e = go (row_of r.number).known refl e
  where
    go : (t : Bool) → (row_of r.number).known ≡ t → (t && eqb r.spare 0) ≡ false → Line2 r
    go true q e = spare (eqb-false _ _ e)
    go false q e = unknown q

pub not-line-2 : (r : Rec) → is_known (row_of r.number) r ≡ true → Line2 r → ⊥
unfolding is_known
not-line-2 r e l = let q = both (row_of r.number).known (eqb r.spare 0) e in go q.0 (eqb-true _ _ q.1) l
  where
    go : (row_of r.number).known ≡ true → r.spare ≡ 0 → Line2 r → ⊥
    go a b (unknown e) = differ (sym a ∙ e)
    go a b (spare f) = f b

-- what a record's number says: "2, 3 or 4, in that order within a record"
pub data Number (v : Device) (r : Rec) : ℕ → Type 0 where
  is_2 : Line2 r → Number v r 2
  is_3 : (Line2 r → ⊥) → Line3 v r → Number v r 3
  is_4 : (Line2 r → ⊥) → (Line3 v r → ⊥) → Line4 v r → Number v r 4
  is_0 : (Line2 r → ⊥) → (Line3 v r → ⊥) → (Line4 v r → ⊥) → Number v r 0

number : (v : Device) (r : Rec) → Number v r (fault_in v r)
unfolding fault_in fault_of
number v r =
    go (is_known (row_of r.number) r) (operands_ok v (row_of r.number) r) (target_in_work v (row_of r.number) r) refl refl refl
  where
    go : (a b c : Bool) → is_known (row_of r.number) r ≡ a → operands_ok v (row_of r.number) r ≡ b → target_in_work v (row_of r.number) r ≡ c
        → Number v r (pick (not a) 2 (pick (not b) 3 (pick c 4 0)))
    go true true true a b c = is_4 (not-line-2 r a) (not-line-3 v r b) (line-4 v r b c)
    go true true false a b c = is_0 (not-line-2 r a) (not-line-3 v r b) (not-line-4 v r c)
    go true false z a b c = is_3 (not-line-2 r a) (line-3 v r b)
    go false y z a b c = is_2 (line-2 r a)

module _ (v : Device) (r : Rec) where
  pub none-broken : {n : ℕ} → Number v r n → n ≡ 0 → Line2to4 v r → ⊥
  none-broken (is_2 a) e l = omega arith
  none-broken (is_3 a b) e l = omega arith
  none-broken (is_4 a b c) e l = omega arith
  none-broken (is_0 a b c) e (by_2 x) = a x
  none-broken (is_0 a b c) e (by_3 x) = b x
  none-broken (is_0 a b c) e (by_4 x) = c x

  some-broken : {n : ℕ} → Number v r n → 0 < n → Line2to4 v r
  some-broken (is_2 a) h = by_2 a
  some-broken (is_3 a b) h = by_3 b
  some-broken (is_4 a b c) h = by_4 c
  some-broken (is_0 a b c) h = absurd (omega arith)

  pub only-2 : {n : ℕ} → Number v r n → Line2 r → n ≡ 2
  only-2 (is_2 a) x = refl
  only-2 (is_3 a b) x = absurd (a x)
  only-2 (is_4 a b c) x = absurd (a x)
  only-2 (is_0 a b c) x = absurd (a x)

  pub only-3 : {n : ℕ} → Number v r n → (Line2 r → ⊥) → Line3 v r → n ≡ 3
  only-3 (is_2 a) h x = absurd (h a)
  only-3 (is_3 a b) h x = refl
  only-3 (is_4 a b c) h x = absurd (b x)
  only-3 (is_0 a b c) h x = absurd (b x)

  pub only-4 : {n : ℕ} → Number v r n → (Line2 r → ⊥) → (Line3 v r → ⊥) → Line4 v r → n ≡ 4
  only-4 (is_2 a) h g x = absurd (h a)
  only-4 (is_3 a b) h g x = absurd (g b)
  only-4 (is_4 a b c) h g x = refl
  only-4 (is_0 a b c) h g x = absurd (c x)

-- a fault that is found is one of the n from k on, and its number is not 0
inside : (fault : ℕ → ℕ) (k n m i : ℕ) → first_fault fault k n ≡ Fault m i → (i < k + n) × (0 < m)
unfolding first_fault
inside fault k zero m i e = let z : ◌≡◌ {A = ℕ} 0 1 = cc in absurd (omega arith)
inside fault k (suc n) m i e = go (fault k) e (λ q. inside fault (suc k) n m i q)
  where
    go : (x : ℕ) → judged x k (first_fault fault (suc k) n) ≡ Fault m i
        → (first_fault fault (suc k) n ≡ Fault m i → (i < suc k + n) × (0 < m)) → (i < k + suc n) × (0 < m)
    go zero q rec = let r = rec q in (omega (arith, r.0), r.1)
    go (suc x) q rec = let p = refused-parts (suc x) k m i q in (omega (arith, p.1), omega (arith, p.0))

module _ (v : Device) (rs : Records) where
  abbrev pub Breaks : ℕ → Type 0
  Breaks k = Line2to4 v (rs.at k)

  -- no fault: no record breaks 2, 3 or 4; a fault: it is that record's number, at the first record that breaks one of them
  abbrev pub Judges2-4 : Judged → Type 0
  Judges2-4 Fine = Never rs.count Breaks
  Judges2-4 (Err r) = First rs.count Breaks r.at × Number v (rs.at r.at) r.number

  told : (x : Judged) → first_bad v rs ≡ x → Judges2-4 x
  told Fine e = λ j h l. none-broken v (rs.at j) (number v (rs.at j)) (no-fault (λ k. fault_in v (rs.at k)) 0 rs.count e j (omega arith) (omega arith)) l
  told (Err r) e =
      let a = the-first (λ j. fault_in v (rs.at j)) 0 rs.count r.number r.at e in
      let b = inside (λ j. fault_in v (rs.at j)) 0 rs.count r.number r.at e in
      let c : Number v (rs.at r.at) r.number = subst (Number v (rs.at r.at)) a.0 (number v (rs.at r.at)) in
      let h : r.at < rs.count = omega (arith, b.0) in (
        record {
          inside = h;
          holds = some-broken v (rs.at r.at) c b.1;
          before = λ j g l. none-broken v (rs.at j) (number v (rs.at j)) (a.1 j (omega arith) g) l;
        },
        c,
      )

  pub judged-2-4 : Judges2-4 (first_bad v rs)
  judged-2-4 = told (first_bad v rs) refl

  -- so what is judged is decided by the lines
  pub bad-fine : (x : Judged) → Judges2-4 x → Never rs.count Breaks → x ≡ Fine
  bad-fine Fine j h = refl
  bad-fine (Err r) j h = absurd (h r.at j.0.inside j.0.holds)

  pub bad-fault : (m k : ℕ) → ((n : ℕ) → Number v (rs.at k) n → n ≡ m) → (x : Judged) → Judges2-4 x → First rs.count Breaks k
      → x ≡ Fault m k
  bad-fault m k f Fine j h = absurd (j k h.inside h.holds)
  bad-fault m k f (Err r) j h =
      let e : r.at ≡ k = one-first j.0 h in
      ap₂ Fault (f r.number (subst (λ (q : ℕ). Number v (rs.at q) r.number) e j.1)) e
