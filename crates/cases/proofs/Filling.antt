-- A table that is filled entry by entry. Assumes nothing.
use Rattle.std.proofs.Common.{◌≡◌, ℕ, zero, suc, ◌+◌, ◌<◌, ◌≤◌, List, [], ◌∷◌, ◌++◌, length, drop, set, refl, ap, ◌∙◌, ap₂, append-nil, le_of_suc-le-suc, not-suc-le-zero, arith, length-set}
use lib.Seq.{drop-length}
use Rattle.ec20.specs.Basics.{list, list_from}

-- a store after n entries, which are f's from f k on
written : {A : Type 0} (f : ℕ → A) (k n : ℕ) (d : List A) → n < length d → set (list_from f k n ++ drop n d) n (f (k + n)) ≡ list_from f k (suc n) ++ drop (suc n) d
written f k n [] l = absurd (not-suc-le-zero l)
written f k zero (x ∷ d) l = let e : k + 0 ≡ k = omega arith in ap (λ (j : ℕ). f j ∷ d) e
written f k (suc n) (x ∷ d) l =
    let e : k + suc n ≡ suc k + n = omega arith in
    ap (λ (j : ℕ). f k ∷ set (list_from f (suc k) n ++ drop n d) n (f j)) e ∙ ap (λ (t : List _). f k ∷ t) (written f (suc k) n d (le_of_suc-le-suc l))

-- of the table d the first k entries are now f's
pub record Filling {A : Type 0} (d : List A) (k : ℕ) (f : ℕ → A) (l : List A) : Type 0 where
  pub size : length l ≡ length d
  pub below : k ≤ length d
  pub told : l ≡ list k f ++ drop k d

pub filling-none : {A : Type 0} (d : List A) (f : ℕ → A) → Filling d 0 f d
filling-none d f = record { size = refl; below = omega arith; told = refl }

pub filling-more : {A : Type 0} {d : List A} {k : ℕ} {f : ℕ → A} {l : List A} (v : A) → k < length d → Filling d k f l → v ≡ f k → Filling d (k + 1) f (set l k v)
filling-more {A = A} {d = d} {k = k} {f = f} {l = l} v h s e =
    let z : k ≡ 0 + k = omega arith in
    let n : suc k ≡ k + 1 = omega arith in
    record {
      size = length-set l k v ∙ s.size;
      below = omega arith;
      told = ap₂ (λ (t : List A) (x : A). set t k x) s.told (e ∙ ap f z) ∙ written f 0 k d h ∙ ap (λ (j : ℕ). list j f ++ drop j d) n;
    }

pub filling-done : {A : Type 0} {d : List A} {k : ℕ} {f : ℕ → A} {l : List A} → length l ≤ k → Filling d k f l → l ≡ list (length d) f
filling-done {A = A} {d = d} {k = k} {f = f} h s =
    let n : k ≡ length d = omega (arith, s.size, s.below) in
    s.told ∙ ap (λ (j : ℕ). list j f ++ drop j d) n ∙ ap (λ (t : List A). list (length d) f ++ t) (drop-length d) ∙ append-nil (list (length d) f)
