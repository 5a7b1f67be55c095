-- One record more moved. Assumes nothing.
use Prim.Native.Nat.{ℕ, ◌+◌, ◌-◌, ◌*◌, ◌/◌, ◌%◌, ◌<◌, ◌≤◌}
use mathlib.Core.List.{List}
use mathlib.Core.Path.{◌≡◌, refl, sym, ap, subst, ◌∙◌}
use native.Mathlib.Decide.{dec_lt, dec_le}
use native.Mathlib.Omega.{arith}
use lib.ListN.{length}
use lib.Seq.{ext_get_or}
use Rattle.ec20.proofs.Ranges.{within-yes, within-no}
use Rattle.ec20.proofs.MovedLaws.{length_from, comment-kept, trailer-kept, in-record}
use Rattle.ec20.specs.Basics.{list}
use Rattle.ec20.specs.File.{byte_at, u32_at, operand_at}
use Rattle.ec20.specs.Move.{Block, moved_in_operand, moved_in_record, moved_byte}
use Rattle.rewrite.proofs.RecordLaws.{list_at}

module _ (b : Block) (q : ℕ) (f : List ℕ) (first : ℕ) where
  -- the file after so many records
  abbrev pub after : ℕ → List ℕ
  after k = list (length f) (moved_byte b q f first k)

  pub after-length : (k : ℕ) → length (after k) ≡ length f
  after-length k = length_from (moved_byte b q f first k) 0 (length f)

  -- none yet
  pub after_none : f ≡ after 0
  after_none =
      ext_get_or 0 f (after 0) (sym (after-length 0))
      (λ x l.
      sym
      (list_at (length f) (moved_byte b q f first 0) x l
      ∙ elim (dec_lt x first) [ yes g ↦ comment-kept b q f first 0 x g | no g ↦ trailer-kept b q f first 0 x (omega arith) ]))

  -- a byte before record k is the same after k records and after one more
  same-before : (k x : ℕ) → x < first + 20 * k → moved_byte b q f first k x ≡ moved_byte b q f first (k + 1) x
  unfolding moved_byte
  same-before k x l =
      elim (dec_le first x) [
        | yes g ↦ rw (within-yes first (20 * k) x g l, within-yes first (20 * (k + 1)) x g (omega arith)) refl
        | no g ↦ rw (within-no first (20 * k) x (λ h. absurd (g h)), within-no first (20 * (k + 1)) x (λ h. absurd (g h))) refl
      ]

-- a record moves by its own bytes alone
module _ (b : Block) (q : ℕ) (f g : List ℕ) (i : ℕ) (same : (x : ℕ) → i ≤ x → x < i + 20 → byte_at g x ≡ byte_at f x) where
  operand_same : (o : ℕ) → i ≤ o → o + 6 ≤ i + 20 → operand_at g o ≡ operand_at f o
  unfolding operand_at u32_at
  operand_same o l h =
      rw (same o (omega arith) (omega arith), same (o + 1) (omega arith) (omega arith), same (o + 2) (omega arith) (omega arith), same (o + 2 + 1) (omega arith) (omega arith), same (o + 2 + 2) (omega arith) (omega arith), same (o + 2 + 3) (omega arith) (omega arith)) refl

  record_same : (r : ℕ) → r < 20 → moved_in_record b q g i r ≡ moved_in_record b q f i r
  unfolding moved_in_record moved_in_operand
  record_same r l =
      rw (operand_same (i + 2 + (r - 2) / 6 * 6) (omega arith) (omega arith), same (i + r) (omega arith) (omega arith), same (i + 2 + (r - 2) / 6 * 6 + (r - 2) % 6) (omega arith) (omega arith)) refl

module _ (b : Block) (q : ℕ) (f : List ℕ) (first k : ℕ) (h : first + 20 * k + 20 ≤ length f) where
  abbrev done : List ℕ
  done = after b q f first k

  done_at : (x : ℕ) → x < length f → byte_at done x ≡ moved_byte b q f first k x
  done_at x l = list_at (length f) (moved_byte b q f first k) x l

  -- a byte of record k, or after it, is not moved yet
  not_yet : (x : ℕ) → x < length f → first + 20 * k ≤ x → byte_at done x ≡ byte_at f x
  not_yet x l g = done_at x l ∙ trailer-kept b q f first k x g

  in-next : (r : ℕ) → r < 20 → moved_byte b q done (first + 20 * k) 1 (first + 20 * k + r) ≡ moved_byte b q f first (k + 1) (first + 20 * k + r)
  in-next r l =
      let x : first + 20 * k + r ≡ first + 20 * k + (0 * 20 + r) = omega arith in
      let y : first + 20 * k + r ≡ first + (k * 20 + r) = omega arith in
      let z : first + 20 * k + 0 * 20 ≡ first + 20 * k = omega arith in
      let w : first + k * 20 ≡ first + 20 * k = omega arith in
      ap (moved_byte b q done (first + 20 * k) 1) x
      ∙ in-record b q done (first + 20 * k) 1 0 r (omega arith) l
      ∙ ap (λ (i : ℕ). moved_in_record b q done i r) z
      ∙ record_same b q f done (first + 20 * k) (λ p lo hi. not_yet p (omega arith) lo) r l
      ∙ sym (ap (moved_byte b q f first (k + 1)) y ∙ in-record b q f first (k + 1) k r (omega arith) l ∙ ap (λ (i : ℕ). moved_in_record b q f i r) w)

  next-at : (x : ℕ) → x < length f → moved_byte b q done (first + 20 * k) 1 x ≡ moved_byte b q f first (k + 1) x
  next-at x l =
      elim (dec_lt x (first + 20 * k)) [
        | yes g ↦ comment-kept b q done (first + 20 * k) 1 x g ∙ done_at x l ∙ same-before b q f first k x g
        | no g ↦ elim (dec_lt x (first + 20 * k + 20)) [
          | yes m ↦
              let e : x ≡ first + 20 * k + (x - (first + 20 * k)) = omega arith in
              rw e (in-next (x - (first + 20 * k)) (omega arith))
          | no m ↦
              trailer-kept b q done (first + 20 * k) 1 x (omega arith)
              ∙ not_yet x l (omega arith)
              ∙ sym (trailer-kept b q f first (k + 1) x (omega arith))
        ]
      ]

  next : list (length done) (moved_byte b q done (first + 20 * k) 1) ≡ after b q f first (k + 1)
  next =
      let n : length done ≡ length f = after-length b q f first k in
      let m : length (list (length done) (moved_byte b q done (first + 20 * k) 1)) ≡ length f = length_from (moved_byte b q done (first + 20 * k) 1) 0 (length done) ∙ n in
      ext_get_or 0 (list (length done) (moved_byte b q done (first + 20 * k) 1)) (after b q f first (k + 1)) (m ∙ sym (after-length b q f first (k + 1)))
      (λ x l.
      let l' : x < length f = subst (λ (i : ℕ). x < i) m l in
      list_at (length done) (moved_byte b q done (first + 20 * k) 1) x (rw n l')
      ∙ next-at x l'
      ∙ sym (list_at (length f) (moved_byte b q f first (k + 1)) x l'))

  -- the same, of files that calls give
  pub after_more : {x y : List ℕ} → x ≡ done → y ≡ list (length x) (moved_byte b q x (first + 20 * k) 1) → y ≡ after b q f first (k + 1)
  after_more e g = g ∙ rw e next
