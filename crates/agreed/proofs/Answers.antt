-- EACH ANSWER EXACTLY WHEN ITS LINE HOLDS: answers. Its statement is in specs/Agreed.antt. Assumes nothing.
use Prim.Native.Nat.{ℕ, zero, suc, ◌+◌, ◌-◌, ◌≤◌, ◌<◌}
use mathlib.Core.List.{List, [], ◌++◌}
use mathlib.Core.Logic.{◌⊎◌, inl, inr}
use mathlib.Core.Path.{◌≡◌, refl, sym, ap, subst, ◌∙◌}
use native.Mathlib.Decide.{ℕ_discrete, dec_lt, dec_le}
use native.Mathlib.Omega.{arith}
use lib.ListN.{length, drop, length-append, length-drop, get_or-append}
use lib.Seq.{get_or-append-add, get_or-drop}
use borrow.Author.Tests.{lt-ltb, le-ltb, le-leb, lt-leb}
use Rattle.std.specs.Prelude.{Err}
use Rattle.ec20.specs.Basics.{then}
use Rattle.ec20.specs.Devices.{ec20}
use Rattle.ec20.specs.Move.{block_fault}
use Rattle.ec20.specs.Judged.{Judged}
use Rattle.ec20.specs.Judged.{Fine, Fault}
use Rattle.units.specs.Clash.{Declared}
use Rattle.units.specs.Report.{clashes_of, block_of, blocks_fault, list_fault, room_fault, judge_clashes, Reported, reported, filled, report_of}
use Rattle.units.specs.Clashed.{Clashed}
use Rattle.units.specs.Clashed.{Refused, Clashes}
use Rattle.units.specs.declared.Declaration.{Declaration}
use Rattle.agreed.specs.Agreed.{entry, Wrong, Line10, over_64, block, Not10, Filled, Answers}
use Rattle.agreed.proofs.Complete.{complete}

-- ---- 10

-- a line of 10 holds, and is found; or it does not, and nothing is
abbrev Decided : Type 0 → Judged → Type 0
Decided L j = (L × (j ≡ Fault 10 0)) ⊎ ((L → ⊥) × (j ≡ Fine))

block-decided : (a : Declaration) → Decided (Wrong a) (block_fault ec20 (block_of a))
unfolding block_fault
block-decided a =
    elim (dec_lt 0 a.length) [
      | yes x ↦ elim (dec_le (a.start + a.length) 8000) [
        | yes y ↦ inr (right x y, rw (lt-ltb _ _ x, le-leb _ _ y) refl)
        | no y ↦ let z : 8000 < a.start + a.length = omega arith in inl (inr z, rw (lt-ltb _ _ x, lt-leb _ _ z) refl)
      ]
      | no x ↦ let z : a.length ≤ 0 = omega arith in inl (inl (omega arith), rw (le-ltb _ _ z) refl)
    ]
  where
    right : 0 < a.length → a.start + a.length ≤ 8000 → Wrong a → ⊥
    right x y (inl e) = omega arith
    right x y (inr e) = omega arith

-- one of the n blocks from place m on is wrong
abbrev SomeWrong : Declared → ℕ → ℕ → Type 0
SomeWrong v m n = (i : ℕ) × (m ≤ i) × (i < m + n) × (Wrong (v.at i))

blocks-decided : (v : Declared) (m n : ℕ) → Decided (SomeWrong v m n) (blocks_fault v m n)
unfolding blocks_fault
blocks-decided v m zero = inr (λ h. omega (arith, h.1, h.2), refl)
blocks-decided v m (suc n) =
    elim (block-decided (v.at m)) [
      | inl x ↦ inl ((m, omega arith, omega arith, x.0), ap (λ (j : Judged). then j (blocks_fault v (suc m) n)) x.1)
      | inr x ↦ elim (blocks-decided v (suc m) n) [
        | inl y ↦ let h = y.0 in inl ((h.0, omega (arith, h.1), omega (arith, h.2), h.3), rw x.1 y.1)
        | inr y ↦ inr (none x.0 y.0, rw x.1 y.1)
      ]
    ]
  where
    none : (Wrong (v.at m) → ⊥) → (SomeWrong v (suc m) n → ⊥) → SomeWrong v m (suc n) → ⊥
    none f g h =
        elim (ℕ_discrete m h.0) [
          | yes d ↦ f (subst (λ (k : ℕ). Wrong (v.at k)) (sym d) h.3)
          | no d ↦ g (h.0, omega (arith, d, h.1), omega (arith, h.2), h.3)
        ]

pub list-decided : (v : Declared) → (Line10 v × (list_fault v ≡ Fault 10 0)) ⊎ (Not10 v × (list_fault v ≡ Fine))
unfolding list_fault
list-decided v =
    elim (dec_le v.count 64) [
      | yes x ↦ elim (blocks-decided v 0 v.count) [
        | inl y ↦ let h = y.0 in inl (block h.0 (omega (arith, h.2)) h.3, rw (le-leb _ _ x) y.1)
        | inr y ↦ inr (none x y.0, rw (le-leb _ _ x) y.1)
      ]
      | no x ↦ let z : 64 < v.count = omega arith in inl (over_64 z, rw (lt-leb _ _ z) refl)
    ]
  where
    none : v.count ≤ 64 → (SomeWrong v 0 v.count → ⊥) → Not10 v
    none x f (over_64 l) = omega arith
    none x f (block i l w) = f (i, omega arith, omega arith, w)

-- ---- what comes of a call

data Outcome (v : Declared) (b : List (List ℕ)) : Type 0 where
  by_10 : Line10 v → report_of v b ≡ reported (Refused 10 0) b → Outcome v b
  by_16 : Not10 v → length b < 2016 → report_of v b ≡ reported (Refused 16 0) b → Outcome v b
  by_none : Not10 v → 2016 ≤ length b → report_of v b ≡ reported (Clashes (length (clashes_of v))) (filled (clashes_of v) b) → Outcome v b

outcome : (v : Declared) (b : List (List ℕ)) → Outcome v b
unfolding report_of judge_clashes room_fault
outcome v b =
    elim (list-decided v) [
      | inl x ↦ by_10 x.0 (rw x.1 refl)
      | inr x ↦ elim (dec_le 2016 (length b)) [
        | yes y ↦ by_none x.0 y (rw (x.1, le-leb _ _ y) refl)
        | no y ↦ let z : length b < 2016 = omega arith in by_16 x.0 z (rw (x.1, lt-leb _ _ z) refl)
      ]
    ]

-- ---- the report that is filled

counted : (v : Declared) → Not10 v → length (clashes_of v) ≤ 2016
counted v h = elim (dec_le v.count 64) [ yes z ↦ (complete v).most z | no z ↦ absurd (h (over_64 (omega arith))) ]

fills : (v : Declared) (b : List (List ℕ)) → Not10 v → 2016 ≤ length b → Filled v b (filled (clashes_of v) b) (length (clashes_of v))
unfolding filled
fills v b h l =
    let s : List (List ℕ) = clashes_of v in
    record {
      count = refl;
      first = λ k u. get_or-append s (drop (length s) b) [] k u;
      rest = λ k u.
          ap (entry (s ++ drop (length s) b)) {x = k} {y = length s + (k - length s)} (omega arith)
          ∙ get_or-append-add s (drop (length s) b) (k - length s) []
          ∙ get_or-drop (length s) b (k - length s) []
          ∙ ap (entry b) {x = length s + (k - length s)} {y = k} (omega arith);
      size = omega (arith, length-append s (drop (length s) b), length-drop (length s) b, counted v h, l);
    }

-- ---- the table

-- answers are told apart by their numbers
abbrev number : Clashed → ℕ
number (Err r) = r.number
number (Clashes c) = 0

abbrev record_of : Clashed → ℕ
record_of (Err r) = r.at
record_of (Clashes c) = c

module _ (v : Declared) (b : List (List ℕ)) where
  -- the answer of a call is no other
  apart : {A : Type 0} (r : Reported) (a : Clashed) → report_of v b ≡ r → (number r.answer ≡ number a → ⊥) → (report_of v b).answer ≡ a → A
  apart r a e n h = absurd (n (ap number (sym (ap (λ (x : Reported). x.answer) e) ∙ h)))

  by : Outcome v b → Answers v b
  by (by_10 l e) = record {
    ten = (λ _. l, λ _. ap (λ (x : Reported). x.answer) e);
    sixteen = (apart (reported (Refused 10 0) b) (Refused 16 0) e (λ z. omega arith), λ h. absurd (h.0 l));
    clashes = (apart (reported (Refused 10 0) b) (Clashes (length (clashes_of v))) e (λ z. omega arith), λ h. absurd (h.0 l));
    refused = λ n k h.
        let q : Refused 10 0 ≡ Refused n k = sym (ap (λ (x : Reported). x.answer) e) ∙ h in
        (ap (λ (x : Reported). x.report) e, inl (sym (ap number q)), sym (ap record_of q));
    told = λ c. apart (reported (Refused 10 0) b) (Clashes c) e (λ z. omega arith);
  }
  by (by_16 n u e) = record {
    ten = (apart (reported (Refused 16 0) b) (Refused 10 0) e (λ z. omega arith), λ l. absurd (n l));
    sixteen = (λ _. (n, omega arith), λ _. ap (λ (x : Reported). x.answer) e);
    clashes = (apart (reported (Refused 16 0) b) (Clashes (length (clashes_of v))) e (λ z. omega arith), λ h. absurd (omega (arith, h.1, u)));
    refused = λ m k h.
        let q : Refused 16 0 ≡ Refused m k = sym (ap (λ (x : Reported). x.answer) e) ∙ h in
        (ap (λ (x : Reported). x.report) e, inr (sym (ap number q)), sym (ap record_of q));
    told = λ c. apart (reported (Refused 16 0) b) (Clashes c) e (λ z. omega arith);
  }
  by (by_none n u e) =
      let r : Reported = reported (Clashes (length (clashes_of v))) (filled (clashes_of v) b) in
      record {
        ten = (apart r (Refused 10 0) e (λ z. omega arith), λ l. absurd (n l));
        sixteen = (apart r (Refused 16 0) e (λ z. omega arith), λ h. absurd (omega (arith, h.1, u)));
        clashes = (λ _. (n, omega arith), λ _. ap (λ (x : Reported). x.answer) e);
        refused = λ m k h.
            let q : Clashes (length (clashes_of v)) ≡ Refused m k = sym (ap (λ (x : Reported). x.answer) e) ∙ h in
            absurd (no-refusal m k q);
        told = λ c h.
            let q : length (clashes_of v) ≡ c = ap record_of (sym (ap (λ (x : Reported). x.answer) e) ∙ h) in
            subst (λ (m : ℕ). Filled v b (report_of v b).report m) q
            (subst (λ (x : Reported). Filled v b x.report (length (clashes_of v))) (sym e) (fills v b n u));
      }
    where
      no-refusal : (m k : ℕ) → Clashes (length (clashes_of v)) ≡ Refused m k → ⊥
      no-refusal m k q = let z : ◌≡◌ {A = ℕ} 0 1 = cc in omega arith

  pub answers : Answers v b
  answers = by (outcome v b)

  -- a call that is not refused
  pub whole : Not10 v → 2016 ≤ length b → report_of v b ≡ reported (Clashes (length (clashes_of v))) (filled (clashes_of v) b)
  whole h l = elim (outcome v b) [ by_10 x e ↦ absurd (h x) | by_16 n u e ↦ absurd (omega (arith, u, l)) | by_none n u e ↦ e ]
