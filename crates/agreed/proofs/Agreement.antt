-- NO CLASH IS TOLD EXACTLY IF ANY TWO DECLARATIONS AGREE: agreement. Its statement is in specs/Agreed.antt. Assumes nothing.
use Prim.Native.Nat.{ℕ, zero, suc, ◌≤◌, ◌<◌}
use mathlib.Core.Bool.{Bool, true, false, not, ◌&&◌}
use mathlib.Core.List.{List, [], ◌∷◌}
use mathlib.Core.Logic.{inl}
use mathlib.Core.Path.{◌≡◌, refl, sym, ap, ap₂, subst, ◌∙◌}
use native.Mathlib.Decide.{ℕ_discrete, dec_lt}
use native.Mathlib.Nat.{not-suc-le-zero}
use native.Mathlib.Omega.{arith}
use lib.Dec.{eqb}
use lib.ListN.{length, get_or}
use borrow.Author.Tests.{eqb-true, eq-eqb, not-false}
use Rattle.ec20.proofs.Ranges.{common, common-meets}
use Rattle.ec20.proofs.Tests.{both, differ, is_false}
use Rattle.ec20.specs.Basics.{pick}
use Rattle.units.specs.Clash.{Declared, same_to, same_name, other_block, overlap, clash_of}
use Rattle.units.specs.Report.{clashes_of, filled, report_of, reported}
use Rattle.units.specs.Clashed.{Clashes}
use Rattle.units.specs.declared.Declaration.{Declaration}
use Rattle.agreed.specs.Agreed.{Clash, block, Not10, Agree, AllAgree, NoneEmpty, Agreement}
use Rattle.agreed.proofs.Complete.{complete}
use Rattle.agreed.proofs.Answers.{whole}

-- ---- the name, byte by byte

same_bytes : (n : ℕ) (a b : List ℕ) → same_to n a b ≡ true → (i : ℕ) → i < n → get_or a i 0 ≡ get_or b i 0
unfolding same_to
same_bytes zero a b e i l = absurd (not-suc-le-zero l)
same_bytes (suc n) a b e i l =
    let h = both (same_to n a b) (eqb (get_or a n 0) (get_or b n 0)) e in
    elim (ℕ_discrete i n) [
      | yes d ↦ subst (λ (k : ℕ). get_or a k 0 ≡ get_or b k 0) (sym d) (eqb-true (get_or a n 0) (get_or b n 0) h.1)
      | no d ↦ same_bytes n a b h.0 i (omega arith)
    ]

bytes_same : (n : ℕ) (a b : List ℕ) → ((i : ℕ) → i < n → get_or a i 0 ≡ get_or b i 0) → same_to n a b ≡ true
unfolding same_to
bytes_same zero a b h = refl
bytes_same (suc n) a b h = ap₂ ◌&&◌ (bytes_same n a b (λ i l. h i (omega arith))) (eq-eqb (get_or a n 0) (get_or b n 0) (h n (omega arith)))

-- ---- two declarations

-- under one name
no-clash-one : (a b : Declaration) → same_name a b ≡ true → clash_of a b ≡ other_block a b
unfolding clash_of
no-clash-one a b e = ap (λ (t : Bool). pick t (other_block a b) (overlap a b)) e

-- under two names
no-clash-two : (a b : Declaration) → same_name a b ≡ false → clash_of a b ≡ overlap a b
unfolding clash_of
no-clash-two a b e = ap (λ (t : Bool). pick t (other_block a b) (overlap a b)) e

-- two that do not clash agree
agree : (a b : Declaration) → clash_of a b ≡ false → Agree a b
agree a b e = record {
  one_name = λ h.
      let o : other_block a b ≡ false = sym (no-clash-one a b (bytes_same 8 a.name b.name h)) ∙ e in
      let q = both (eqb a.start b.start) (eqb a.length b.length) (not-false _ o) in
      (eqb-true _ _ q.0, eqb-true _ _ q.1);
  two_names = λ h i x y.
      let n : same_name a b ≡ false = is_false (same_name a b) (λ t. h (same_bytes 8 a.name b.name t)) in
      let m : overlap a b ≡ true = common-meets a.start a.length b.start b.length i x.from x.to y.from y.to in
      differ (sym m ∙ sym (no-clash-two a b n) ∙ e);
}

-- two that agree, neither of them empty, do not clash
no-clash-by : (a b : Declaration) → 0 < a.length → 0 < b.length → Agree a b → (t : Bool) → same_name a b ≡ t → clash_of a b ≡ false
no-clash-by a b x y g true e =
    let s = g.one_name (same_bytes 8 a.name b.name e) in
    no-clash-one a b e ∙ ap not (ap₂ ◌&&◌ (eq-eqb a.start b.start s.0) (eq-eqb a.length b.length s.1))
no-clash-by a b x y g false e =
    no-clash-two a b e
    ∙ is_false (overlap a b) (λ m.
    let c = common a.start a.length b.start b.length x y m in
    g.two_names (λ h. differ (sym (bytes_same 8 a.name b.name h) ∙ e)) c.0 (record { from = c.1; to = c.2 }) (record { from = c.3; to = c.4 }))

no-clash : (a b : Declaration) → 0 < a.length → 0 < b.length → Agree a b → clash_of a b ≡ false
no-clash a b x y g = no-clash-by a b x y g (same_name a b) refl

-- ---- a list

empty : (s : List (List ℕ)) → (0 < length s → ⊥) → s ≡ []
empty [] h = refl
empty (p ∷ s) h = absurd (h (omega arith))

none_told : (v : Declared) → NoneEmpty v → AllAgree v → clashes_of v ≡ []
none_told v n g =
    empty (clashes_of v) (λ l.
    let h = (complete v).only 0 l in
    let c : Clash v h.0 h.1 = h.2 in
    differ (sym c.clash ∙ no-clash (v.at h.0) (v.at h.1) (omega (arith, n h.0 (omega (arith, c.lower, c.below)))) (omega (arith, n h.1 c.below)) (g h.0 h.1 c.lower c.below)))

none_clash : (v : Declared) → clashes_of v ≡ [] → AllAgree v
none_clash v e i j l u =
    agree (v.at i) (v.at j) (is_false (clash_of (v.at i) (v.at j)) (λ t.
    let h = (complete v).told i j (record { lower = l; below = u; clash = t }) in
    absurd (not-suc-le-zero (subst (λ (s : List (List ℕ)). h.0 < length s) e h.1))))

none-empty : (v : Declared) → Not10 v → NoneEmpty v
none-empty v h i l =
    elim (dec_lt 0 (v.at i).length) [ yes z ↦ z | no z ↦ absurd (h (block i l (inl (omega arith)))) ]

report : (v : Declared) (b : List (List ℕ)) → Not10 v → 2016 ≤ length b → AllAgree v → report_of v b ≡ reported (Clashes 0) b
unfolding filled
report v b h l g =
    whole v b h l ∙ ap (λ (s : List (List ℕ)). reported (Clashes (length s)) (filled s b)) (none_told v (none-empty v h) g)

pub agreement : (v : Declared) (b : List (List ℕ)) → Agreement v b
agreement v b = record { none_told = none_told v; none_clash = none_clash v; report = report v b }
