-- A report that is filled in a loop: the pairs t are told, from number `from` on, and with those that are to come they are the whole. Assumes nothing.
use Prim.Native.Nat.{ℕ, ◌+◌, ◌≤◌}
use mathlib.Core.List.{List, [], ◌++◌, append_assoc, append-nil}
use mathlib.Core.Path.{◌≡◌, refl, sym, ap, ◌∙◌}
use native.Mathlib.Omega.{arith}
use lib.ListN.{length, length-append}
use Rattle.units.specs.Report.{filled}

-- what a call that tells the pairs t, from number `from` on, makes of a report
abbrev pub Fills : ℕ → List (List ℕ) → List (List ℕ) → List (List ℕ) → Type 0
Fills from t before after = (s b : List (List ℕ)) → from ≡ length s → before ≡ filled s b → after ≡ filled (s ++ t) b

abbrev pub Telling : ℕ → List (List ℕ) → List (List ℕ) → ℕ → List (List ℕ) → List (List ℕ) → List (List ℕ) → Type 0
Telling from whole before at after rest t = (t ++ rest ≡ whole) × (at ≡ from + length t) × Fills from t before after

pub telling-none : (from : ℕ) (whole before : List (List ℕ)) → Telling from whole before from before whole []
telling-none from whole before = (refl, omega arith, λ s b e f. f ∙ ap (λ (z : List (List ℕ)). filled z b) (sym (append-nil s)))

-- the pairs `one` are told next
pub telling-more : (from : ℕ) (whole before : List (List ℕ)) (at : ℕ) (after rest t one rest2 : List (List ℕ)) (at2 : ℕ) (after2 : List (List ℕ))
    → Telling from whole before at after rest t → rest ≡ one ++ rest2 → at2 ≡ at + length one → Fills at one after after2 → Telling from whole before at2 after2 rest2 (t ++ one)
telling-more from whole before at after rest t one rest2 at2 after2 told e e2 fills = (
  append_assoc t one rest2 ∙ ap (λ (z : List (List ℕ)). t ++ z) (sym e) ∙ told.0,
  omega (arith, e2, told.1, length-append t one),
  λ s b f g.
      let h : at ≡ length (s ++ t) = told.1 ∙ ap (λ (k : ℕ). k + length t) f ∙ sym (length-append s t) in
      fills (s ++ t) b h (told.2 s b f g) ∙ ap (λ (z : List (List ℕ)). filled z b) (append_assoc s t one),
)

-- nothing is to come
pub telling-all : (from : ℕ) (whole before : List (List ℕ)) (at : ℕ) (after rest t : List (List ℕ)) → Telling from whole before at after rest t → rest ≡ []
    → (at ≡ from + length whole) × Fills from whole before after
telling-all from whole before at after rest t told e =
    let all : t ≡ whole = sym (append-nil t) ∙ ap (λ (z : List (List ℕ)). t ++ z) (sym e) ∙ told.0 in
    (told.1 ∙ ap (λ (z : List (List ℕ)). from + length z) all, λ s b f g. told.2 s b f g ∙ ap (λ (z : List (List ℕ)). filled (s ++ z) b) all)

-- one pair more at most, for one place more
pub one_more : (t one : List (List ℕ)) (k j : ℕ) → length t + k ≤ j → length one ≤ 1 → length (t ++ one) + k ≤ j + 1
one_more t one k j h l = omega (arith, h, l, length-append t one)
