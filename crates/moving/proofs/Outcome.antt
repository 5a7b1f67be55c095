-- Which word instructions store two numbers: DIV and DDIV alone.
use Prim.Native.Nat.{ℕ, ◌*◌, ◌≤◌}
use mathlib.Core.Bool.{false}
use mathlib.Core.Path.{◌≡◌, refl, sym, ◌∙◌}
use native.Mathlib.Omega.{arith}
use lib.Dec.{eqb}
use lib.IntN.{ℤ, pos}
use lib.Signed.{lt_z}
use Rattle.ec20.specs.declared.Outcome.{Outcome}
use Rattle.ec20.specs.Numbers.{is_lowest}
use Rattle.ec20.specs.Words.{sum_of, sqt_of, vabs_of, neg_of, is, compute_of}
use Rattle.ec20.specs.Step.{width_of}
use Rattle.ec20.proofs.Tests.{picked, differ}
use Rattle.moving.specs.Rename.{words_of, written_by}

-- one number at most
abbrev Single : Outcome → Type 0
Single r = r.two ≡ 0

single-sqt : (a : ℤ) → Single (sqt_of a)
unfolding sqt_of
single-sqt a = picked Single (lt_z a (pos 0)) _ _ (λ _. refl) (λ _. refl)

single-vabs : (h : ℕ) (a : ℤ) → Single (vabs_of h a)
unfolding vabs_of
single-vabs h a = picked Single (is_lowest h a) _ _ (λ _. refl) (λ _. refl)

single-neg : (h : ℕ) (a : ℤ) → Single (neg_of h a)
unfolding neg_of
single-neg h a = picked Single (is_lowest h a) _ _ (λ _. refl) (λ _. refl)

-- every instruction but 35 and 52 comes to one number at most
single : (n h : ℕ) (a b : ℤ) → is n 35 52 ≡ false → (compute_of n h a b).two ≡ 0
unfolding compute_of sum_of
single n h a b e =
    picked Single (is n 33 49) _ _ (λ _. refl)
    (λ _. picked Single (is n 34 50) _ _ (λ _. refl)
    (λ _. picked Single (is n 35 52) _ _ (λ q. differ (sym q ∙ e))
    (λ _. picked Single (is n 36 53) _ _ (λ _. single-sqt a)
    (λ _. picked Single (is n 37 54) _ _ (λ _. refl)
    (λ _. picked Single (is n 38 55) _ _ (λ _. refl)
    (λ _. picked Single (eqb n 39) _ _ (λ _. single-vabs h a)
    (λ _. picked Single (eqb n 40) _ _ (λ _. single-neg h a)
    (λ _. picked Single (eqb n 51) _ _ (λ _. refl) (λ _. refl)))))))))

-- so each instruction writes the words of one number at least, and of two where it comes to two
pub written_one : (n : ℕ) → words_of (width_of n) ≤ written_by n
written_one n = picked (λ (e : ℕ). words_of (width_of n) ≤ e) (is n 35 52) _ _ (λ _. omega arith) (λ _. omega arith)

pub written-two : (n h : ℕ) (a b : ℤ) → (compute_of n h a b).two ≡ 1 → written_by n ≡ 2 * words_of (width_of n)
written-two n h a b e =
    picked (λ (k : ℕ). k ≡ 2 * words_of (width_of n)) (is n 35 52) _ _ (λ _. refl)
    (λ q. let z : (compute_of n h a b).two ≡ 0 = single n h a b q in absurd (omega arith))
