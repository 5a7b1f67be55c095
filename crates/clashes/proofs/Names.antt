-- Two names are the same in their first eight bytes exactly if they are equal, as names of eight bytes. Assumes nothing.
use Prim.Native.Nat.{ℕ, zero, suc, ◌<◌}
use mathlib.Core.Bool.{Bool, true, false}
use mathlib.Core.List.{List}
use mathlib.Core.Path.{◌≡◌, refl, sym, subst, ◌∙◌}
use native.Mathlib.Decide.{dec_lt}
use native.Mathlib.Omega.{arith}
use lib.Dec.{eqb}
use lib.ListN.{length, get_or}
use lib.Pointwise.{pointwise, bytes_decides}
use borrow.Author.Tests.{eqb-true, eq-eqb}
use Rattle.std.proofs.lemmas.Grind.{same_number_lists}
use Rattle.ec20.proofs.Tests.{both, is_false, differ}
use Rattle.units.specs.Clash.{same_to}

same-itself : (n : ℕ) (a : List ℕ) → same_to n a a ≡ true
unfolding same_to
same-itself zero a = refl
same-itself (suc n) a = rw (same-itself n a, eq-eqb (get_or a n 0) (get_or a n 0) refl) refl

same-each : (n : ℕ) (a b : List ℕ) → same_to n a b ≡ true → (i : ℕ) → i < n → get_or a i 0 ≡ get_or b i 0
unfolding same_to
same-each zero a b e i l = absurd (omega arith)
same-each (suc n) a b e i l =
    let h = both (same_to n a b) (eqb (get_or a n 0) (get_or b n 0)) e in
    elim (dec_lt i n) [
      | yes k ↦ same-each n a b h.0 i k
      | no k ↦ subst (λ (j : ℕ). get_or a j 0 ≡ get_or b j 0) {x = n} {y = i} (omega arith) (eqb-true _ _ h.1)
    ]

pub names-same : (a b : List ℕ) → length a ≡ 8 → length b ≡ 8 → pointwise eqb a b ≡ same_to 8 a b
names-same a b l m = go (pointwise eqb a b) refl
  where
    go : (t : Bool) → pointwise eqb a b ≡ t → pointwise eqb a b ≡ same_to 8 a b
    go true e = let same : a ≡ b = (bytes_decides a b).0 e in e ∙ sym (subst (λ (x : List ℕ). same_to 8 a x ≡ true) same (same-itself 8 a))
    go false e =
        e ∙ sym (is_false (same_to 8 a b) (λ h.
        let same : a ≡ b = same_number_lists a b (omega (arith, l, m)) (λ k i. same-each 8 a b h k (omega (arith, l, i))) in
        differ (sym ((bytes_decides a b).1 same) ∙ e)))
