-- The three operands of a record moved: the record moved, byte by byte. Assumes nothing.
use Prim.Native.Nat.{ℕ, zero, suc, ◌+◌, ◌-◌, ◌*◌, ◌/◌, ◌%◌, ◌<◌, ◌≤◌}
use mathlib.Core.List.{List}
use mathlib.Core.Path.{◌≡◌, refl, sym, ap, subst, ◌∙◌}
use native.Mathlib.Decide.{dec_lt}
use native.Mathlib.Omega.{arith}
use lib.ListN.{length}
use lib.Seq.{ext_get_or}
use borrow.Author.Tests.{lt-ltb, le-ltb}
use Rattle.ec20.proofs.MovedLaws.{get_d-from, length_from, comment-kept, trailer-kept, in-record}
use Rattle.ec20.specs.Basics.{list}
use Rattle.ec20.specs.File.{byte_at, operand_at}
use Rattle.ec20.specs.Move.{Block, byte_of, moved_number, moved_in_operand, moved_in_record, moved_byte}
use Rattle.rewrite.proofs.NumberLaws.{u32-length, u32-other, u32-byte, operand-after}
use Rattle.rewrite.specs.Numbers.{with_u32}

-- element x of a list by a rule
pub list_at : (n : ℕ) (rule : ℕ → ℕ) (x : ℕ) → x < n → byte_at (list n rule) x ≡ rule x
list_at n rule x h = let e : 0 + x ≡ x = omega arith in get_d-from rule 0 n x 0 h ∙ ap rule e

module _ (b : Block) (q : ℕ) (f : List ℕ) (i : ℕ) where
  -- a byte of a record that is in no operand's number is as it was
  pub kind-byte : (r : ℕ) → (r - 2) % 6 < 2 → moved_in_record b q f i r ≡ byte_at f (i + r)
  unfolding moved_in_record moved_in_operand
  kind-byte r h =
      elim (dec_lt r 2) [
        | yes l ↦ rw (lt-ltb _ _ l) refl
        | no l ↦
            let l' : 2 ≤ r = omega arith in
            let e : i + 2 + (r - 2) / 6 * 6 + (r - 2) % 6 ≡ i + r = omega arith in
            rw (le-ltb _ _ l', lt-ltb _ _ h, e) refl
      ]

  -- byte t of operand m's number is that of the moved number
  pub number-byte : (m t : ℕ) → t < 4 → moved_in_record b q f i (m * 6 + (4 + t)) ≡ byte_of (moved_number b q (operand_at f (i + 2 + m * 6))) t
  unfolding moved_in_record moved_in_operand
  number-byte m t h =
      let r : 2 ≤ m * 6 + (4 + t) = omega arith in
      let a : (m * 6 + (4 + t) - 2) / 6 ≡ m = omega arith in
      let j : (m * 6 + (4 + t) - 2) % 6 ≡ t + 2 = omega arith in
      let l : 2 ≤ t + 2 = omega arith in
      let z : t + 2 - 2 ≡ t = omega arith in
      rw (le-ltb _ _ r, a, j, le-ltb _ _ l, z) refl

-- where byte x stands to the record at byte i: in the number of operand m, elsewhere in the record, outside it
pub data Lies (i x : ℕ) : Type 0 where
  number : (m t : ℕ) → m < 3 → t < 4 → x ≡ i + (m * 6 + (4 + t)) → Lies i x
  other : (r : ℕ) → r < 20 → (r - 2) % 6 < 2 → x ≡ i + r → Lies i x
  outside : (i ≤ x → i + 20 ≤ x) → Lies i x

pub lies : (i x : ℕ) → Lies i x
lies i x =
    elim (dec_lt x i) [
      | yes l ↦ outside (λ g. absurd (omega arith))
      | no l ↦ elim (dec_lt x (i + 20)) [
        | no g ↦ outside (λ _. omega arith)
        | yes g ↦ elim (dec_lt ((x - i - 2) % 6) 2) [
          | yes k ↦ other (x - i) (omega arith) k (omega arith)
          | no k ↦ number ((x - i - 2) / 6) ((x - i - 2) % 6 - 2) (omega arith) (omega arith) (omega arith)
        ]
      ]
    ]

module _ (b : Block) (q : ℕ) (f : List ℕ) (i : ℕ) (h : i + 20 ≤ length f) where
  -- the number of operand m, moved
  abbrev number_of : ℕ → ℕ
  number_of m = moved_number b q (operand_at f (i + 2 + m * 6))

  abbrev one : List ℕ
  one = with_u32 f (i + 2 + 2) (moved_number b q (operand_at f (i + 2)))

  abbrev two : List ℕ
  two = with_u32 one (i + 8 + 2) (moved_number b q (operand_at f (i + 8)))

  abbrev three : List ℕ
  three = with_u32 two (i + 14 + 2) (moved_number b q (operand_at f (i + 14)))

  three-length : length three ≡ length f
  three-length = simp u32-length

  -- each byte of the three moved operands
  at_first : (t : ℕ) → t < 4 → byte_at three (i + 2 + 2 + t) ≡ byte_of (moved_number b q (operand_at f (i + 2))) t
  at_first t l =
      u32-other two (i + 14 + 2) _ (i + 2 + 2 + t) (λ g. omega arith)
      ∙ u32-other one (i + 8 + 2) _ (i + 2 + 2 + t) (λ g. omega arith)
      ∙ u32-byte f (i + 2 + 2) _ (omega arith) t l

  at_second : (t : ℕ) → t < 4 → byte_at three (i + 8 + 2 + t) ≡ byte_of (moved_number b q (operand_at f (i + 8))) t
  at_second t l =
      u32-other two (i + 14 + 2) _ (i + 8 + 2 + t) (λ g. omega arith)
      ∙ u32-byte one (i + 8 + 2) _ (simp u32-length (omega arith)) t l

  at-third : (t : ℕ) → t < 4 → byte_at three (i + 14 + 2 + t) ≡ byte_of (moved_number b q (operand_at f (i + 14))) t
  at-third t l = u32-byte two (i + 14 + 2) _ (simp u32-length (omega arith)) t l

  at-number : (m t : ℕ) → m < 3 → t < 4 → byte_at three (i + (m * 6 + (4 + t))) ≡ byte_of (number_of m) t
  at-number zero t k l =
      let x : i + (0 * 6 + (4 + t)) ≡ i + 2 + 2 + t = omega arith in
      let o : i + 2 + 0 * 6 ≡ i + 2 = omega arith in
      rw (x, o) (at_first t l)
  at-number (suc zero) t k l =
      let x : i + (1 * 6 + (4 + t)) ≡ i + 8 + 2 + t = omega arith in
      let o : i + 2 + 1 * 6 ≡ i + 8 = omega arith in
      rw (x, o) (at_second t l)
  at-number (suc (suc zero)) t k l =
      let x : i + (2 * 6 + (4 + t)) ≡ i + 14 + 2 + t = omega arith in
      let o : i + 2 + 2 * 6 ≡ i + 14 = omega arith in
      rw (x, o) (at-third t l)
  at-number (suc (suc (suc m))) t k l = absurd (omega (arith, k))

  -- every other byte is as it was
  at_other : (x : ℕ) → (i + 4 ≤ x → i + 8 ≤ x) → (i + 10 ≤ x → i + 14 ≤ x) → (i + 16 ≤ x → i + 20 ≤ x) → byte_at three x ≡ byte_at f x
  at_other x a c d =
      u32-other two (i + 14 + 2) _ x (λ g. let z = d (omega arith) in omega arith)
      ∙ u32-other one (i + 8 + 2) _ x (λ g. let z = c (omega arith) in omega arith)
      ∙ u32-other f (i + 2 + 2) _ x (λ g. let z = a (omega arith) in omega arith)

  -- a record's bytes, by its own number alone
  alone : (r : ℕ) → r < 20 → moved_byte b q f i 1 (i + r) ≡ moved_in_record b q f i r
  alone r l =
      let z : i + r ≡ i + (0 * 20 + r) = omega arith in
      let y : i + 0 * 20 ≡ i = omega arith in
      ap (moved_byte b q f i 1) z ∙ in-record b q f i 1 0 r (omega arith) l ∙ ap (λ (k : ℕ). moved_in_record b q f k r) y

  at : (x : ℕ) → Lies i x → byte_at three x ≡ moved_byte b q f i 1 x
  at x (number m t k l e) =
      rw e (at-number m t k l ∙ sym (alone (m * 6 + (4 + t)) (omega arith) ∙ number-byte b q f i m t l))
  at x (other r l k e) =
      rw e
      (at_other (i + r) (λ g. omega arith) (λ g. omega arith) (λ g. omega arith)
      ∙ sym (alone r l ∙ kind-byte b q f i r k))
  at x (outside o) =
      at_other x (λ g. let k = o (omega arith) in omega arith) (λ g. let k = o (omega arith) in omega arith) (λ g. o (omega arith))
      ∙ elim (dec_lt x i) [
        | yes l ↦ sym (comment-kept b q f i 1 x l)
        | no l ↦ sym (trailer-kept b q f i 1 x (o (omega arith)))
      ]

  moved : three ≡ list (length f) (moved_byte b q f i 1)
  moved =
      ext_get_or 0 three (list (length f) (moved_byte b q f i 1)) (three-length ∙ sym (length_from (moved_byte b q f i 1) 0 (length f)))
      (λ x l. at x (lies i x) ∙ sym (list_at (length f) (moved_byte b q f i 1) x (subst (λ (k : ℕ). x < k) three-length l)))

  -- the same, of files that calls give
  pub record-moved : {x y z : List ℕ} → x ≡ one → y ≡ with_u32 x (i + 8 + 2) (moved_number b q (operand_at x (i + 8)))
      → z ≡ with_u32 y (i + 14 + 2) (moved_number b q (operand_at y (i + 14))) → z ≡ list (length f) (moved_byte b q f i 1)
  record-moved {x} {y} {z} d e g =
      let s : operand_at x (i + 8) ≡ operand_at f (i + 8) = rw d (operand-after f (i + 2 + 2) _ (i + 8) (omega arith)) in
      let e' : y ≡ two = e ∙ rw (s, d) refl in
      let t : operand_at y (i + 14) ≡ operand_at f (i + 14) =
      rw e' (operand-after one (i + 8 + 2) _ (i + 14) (omega arith) ∙ operand-after f (i + 2 + 2) _ (i + 14) (omega arith)) in
      g ∙ rw (t, e') moved
