-- Signs, rows and free rows of the picture. Assumes nothing.
use Rattle.std.proofs.Common.{◌≡◌, ℕ, ◌+◌, ◌-◌, ◌*◌, ◌/◌, ◌%◌, ◌<◌, ◌≤◌, Bool, ltb, ◌≢◌, List, [], ◌∷◌, length, get_or, set, sym, refl, ap, ◌∙◌, subst, arith, length-set, get_or-set_other, get_or-set_same, ext_get_or, le-ltb, lt-ltb, eq-eqb, ne_eqb}
use native.Mathlib.Decide.{dec_lt, ℕ_discrete}
use lib.ListN.{get_or-eq_default}
use Rattle.ec20.specs.Basics.{pick}
use Rattle.telling.specs.Picture.{sign_by, Row, rows_to, free_rows}
use Rattle.telling.specs.Spans.{marks_of, run_end}

-- ---- the sign of word i: v are its marks, m

module _ (i v m : ℕ) (e : v ≡ m) where
  pub sign-free : v ≡ 0 → i < 7900 → 46 ≡ sign_by i m
  unfolding sign_by
  sign-free z l = rw (sym e ∙ z, lt-ltb i 7900 l)

  pub sign-work : v ≡ 0 → 7900 ≤ i → 35 ≡ sign_by i m
  unfolding sign_by
  sign-work z l = rw (sym e ∙ z, le-ltb i 7900 l)

  pub sign_read : v ≡ 1 → 114 ≡ sign_by i m
  unfolding sign_by
  sign_read z = rw (sym e ∙ z)

  pub sign-written : v ≡ 2 → 119 ≡ sign_by i m
  unfolding sign_by
  sign-written z = rw (sym e ∙ z)

  pub sign-both : (v ≡ 0 → ⊥) → (v ≡ 1 → ⊥) → (v ≡ 2 → ⊥) → 98 ≡ sign_by i m
  unfolding sign_by
  sign-both x y z = let l : 3 ≤ m = omega (arith, x, y, z) in sym (get_or-eq_default (pick (ltb i 7900) 46 35 ∷ 114 ∷ 119 ∷ []) 98 l)

-- ---- a row: its first n signs stand

pub record Rowing (f : ℕ → ℕ) (n : ℕ) (b t : List ℕ) : Type 0 where
  pub size : length t ≡ 111
  pub below : n ≤ 100
  pub signs : (i : ℕ) → i < n → get_or t (i + i / 10 + 1) 0 ≡ f i
  pub blanks : (k : ℕ) → get_or t (11 * k) 0 ≡ get_or b (11 * k) 0

pub rowing-none : (f : ℕ → ℕ) (b : List ℕ) → length b ≡ 111 → Rowing f 0 b b
rowing-none f b e = record { size = e; below = omega arith; signs = λ i h. absurd (omega arith); blanks = λ k. refl }

-- no sign stands where a blank does
no-blank : (n k : ℕ) → 11 * k ≢ n + n / 10 + 1
no-blank n k = elim (dec_lt (n / 10) k) [ yes l ↦ omega arith | no l ↦ omega arith ]

pub rowing_more : (f : ℕ → ℕ) (n : ℕ) (b t : List ℕ) (v : ℕ) → Rowing f n b t → n < 100 → v ≡ f n → Rowing f (n + 1) b (set t (n + n / 10 + 1) v)
rowing_more f n b t v s l e =
    let z : length t ≡ 111 = s.size in
    record {
      size = length-set t (n + n / 10 + 1) v ∙ z;
      below = omega arith;
      signs = λ i h. elim (ℕ_discrete i n) [
        | yes q ↦ subst (λ (j : ℕ). get_or (set t (n + n / 10 + 1) v) (j + j / 10 + 1) 0 ≡ f j) (sym q) (get_or-set_same t (n + n / 10 + 1) v 0 (omega arith) ∙ e)
        | no q ↦ get_or-set_other t (n + n / 10 + 1) (i + i / 10 + 1) v 0 (omega arith) ∙ s.signs i (omega arith)
      ];
      blanks = λ k. get_or-set_other t (n + n / 10 + 1) (11 * k) v 0 (no-blank n k) ∙ s.blanks k;
    }

pub row_done : (f : ℕ → ℕ) (n : ℕ) (b t : List ℕ) → Rowing f n b t → 100 ≤ n → Row f b (set t 110 10)
row_done f n b t s l =
    let z : length t ≡ 111 = s.size in
    record {
      size = length-set t 110 10 ∙ z;
      signs = λ i h. get_or-set_other t 110 (i + i / 10 + 1) 10 0 (omega arith) ∙ s.signs i (omega arith);
      blanks = λ k h. get_or-set_other t 110 (11 * k) 10 0 (omega arith) ∙ s.blanks k;
      ended = get_or-set_same t 110 10 0 (omega arith);
    }

-- the cells are the whole row: two that are filled alike are equal
pub one-row : (f : ℕ → ℕ) (b t u : List ℕ) → Row f b t → Row f b u → t ≡ u
one-row f b t u x y =
    ext_get_or 0 t u (x.size ∙ sym y.size) (λ j h.
    let l : j < 111 = omega (arith, x.size) in
    elim (ℕ_discrete (j % 11) 0) [
      | yes z ↦ elim (dec_lt (j / 11) 10) [
        | yes k ↦ let e : 11 * (j / 11) ≡ j = omega arith in subst (λ (i : ℕ). get_or t i 0 ≡ get_or u i 0) e (x.blanks (j / 11) k ∙ sym (y.blanks (j / 11) k))
        | no k ↦ let e : 110 ≡ j = omega arith in subst (λ (i : ℕ). get_or t i 0 ≡ get_or u i 0) e (x.ended ∙ sym y.ended)
      ]
      | no z ↦
          let i = j - j / 11 - 1 in
          let k : i < 100 = omega arith in
          let q : i / 10 ≡ j / 11 = omega arith in
          let e : i + i / 10 + 1 ≡ j = omega arith in
          subst (λ (i : ℕ). get_or t i 0 ≡ get_or u i 0) e (x.signs i k ∙ sym (y.signs i k))
    ])

-- ---- free rows: v are the marks of the first word, and e is where its run of free words ends

module _ (r w : List ℕ) (first v : ℕ) (em : v ≡ marks_of r w first) where
  pub rows-used : (v ≡ 0 → ⊥) → first ≡ free_rows r w first
  unfolding free_rows
  rows-used z = sym (ap (λ (t : Bool). pick t (rows_to (run_end r w first 0)) first) (ne_eqb (marks_of r w first) 0 (λ x. z (em ∙ x))))

  module _ (z : v ≡ 0) (e : ℕ) (ee : e ≡ run_end r w first 0) where
    rows-free : rows_to e ≡ free_rows r w first
    unfolding free_rows
    rows-free =
        ap rows_to ee ∙ sym (ap (λ (t : Bool). pick t (rows_to (run_end r w first 0)) first) (eq-eqb (marks_of r w first) 0 (sym em ∙ z)))

    pub rows-work : 7900 < e → 7900 ≡ free_rows r w first
    rows-work l = sym (ap (λ (t : Bool). pick t 7900 (e - e % 100)) (lt-ltb 7900 e l)) ∙ rows-free

    pub rows-ahead : e ≤ 7900 → e - e % 100 ≡ free_rows r w first
    rows-ahead l = sym (ap (λ (t : Bool). pick t 7900 (e - e % 100)) (le-ltb 7900 e l)) ∙ rows-free
