-- "The moved program is the old file, byte for byte, with each D number in the block raised or lowered by the distance": nothing else changes.
-- Assumes nothing.
use Prim.Native.Nat.{ℕ, ◌+◌, ◌-◌, ◌*◌, ◌/◌, ◌%◌, ◌<◌, ◌≤◌}
use mathlib.Core.Bool.{Bool, true, false, ◌&&◌}
use mathlib.Core.List.{List}
use mathlib.Core.Logic.{◌⊎◌, inl, inr}
use mathlib.Core.Path.{◌≡◌, refl, sym, ap, subst, ◌∙◌}
use native.Mathlib.Decide.{dec_lt}
use native.Mathlib.Omega.{arith}
use lib.ListN.{length}
use Rattle.ec20.proofs.Ranges.{is_within}
use Rattle.ec20.proofs.MovedLaws.{moved_at, comment-kept, trailer-kept, in-record}
use Rattle.ec20.proofs.Tests.{both}
use Rattle.ec20.specs.Devices.{within}
use Rattle.ec20.specs.File.{byte_at, u32_at, operand_at, first_of, count_of}
use Rattle.ec20.specs.Move.{Block, byte_of, moved_number, moved_in_record, moved_byte, moved_file}
use Rattle.ec20.specs.Operands.{in_d, start_of}
use Rattle.ec20.specs.declared.Operand.{Operand}
use Rattle.rewrite.proofs.NumberLaws.{u32-read}
use Rattle.rewrite.proofs.RecordLaws.{kind-byte, number-byte, Lies, lies, number, other, outside}
use Rattle.rewrite.specs.Changed.{InNumber}

value-at : (f : List ℕ) (o : ℕ) → (operand_at f o).value ≡ u32_at f (o + 2)
unfolding operand_at
value-at f o = refl

-- the number of an operand with no words in D, or with words that do not begin in the block, stays
number-stays : (b : Block) (q : ℕ) (o : Operand) → (in_d o && within b.start b.length (start_of o)) ≡ false → moved_number b q o ≡ o.value
unfolding moved_number
number-stays b q o e = rw e refl

module _ (b : Block) (q : ℕ) (f : List ℕ) (small : (k : ℕ) → byte_at f k < 256) where
  -- byte t of operand m's number of record k
  by-test : (k m t : ℕ) → k < count_of f → m < 3 → t < 4 → (z : Bool)
      → (in_d (operand_at f (first_of f + k * 20 + 2 + m * 6)) && within b.start b.length (start_of (operand_at f (first_of f + k * 20 + 2 + m * 6)))) ≡ z
      → (byte_of (moved_number b q (operand_at f (first_of f + k * 20 + 2 + m * 6))) t ≡ byte_at f (first_of f + k * 20 + 2 + m * 6 + 2 + t))
      ⊎ InNumber b f (first_of f + k * 20 + 2 + m * 6 + 2 + t)
  by-test k m t hk hm ht true e =
      let o : ℕ = first_of f + k * 20 + 2 + m * 6 in
      let g = both (in_d (operand_at f o)) (within b.start b.length (start_of (operand_at f o))) e in
      let w = is_within b.start b.length (start_of (operand_at f o)) g.1 in
      inr
      (record { k = k; m = m; t = t; of_records = hk; of_operands = hm; of_bytes = ht; at = refl; in_D = g.0; from = w.0; to = w.1 })
  by-test k m t hk hm ht false e =
      let o : ℕ = first_of f + k * 20 + 2 + m * 6 in
      inl (ap (λ (x : ℕ). byte_of x t) (number-stays b q (operand_at f o) e ∙ value-at f o) ∙ u32-read f (o + 2) small t ht)

  in_one : (k : ℕ) → k < count_of f → (r : ℕ) → r < 20 → Lies (first_of f + k * 20) (first_of f + k * 20 + r)
      → (moved_in_record b q f (first_of f + k * 20) r ≡ byte_at f (first_of f + k * 20 + r)) ⊎ InNumber b f (first_of f + k * 20 + r)
  in_one k hk r hr (other s hs l e) =
      let z : r ≡ s = omega arith in
      inl (rw z (kind-byte b q f (first_of f + k * 20) s l))
  in_one k hk r hr (outside h) = absurd (let z : first_of f + k * 20 + 20 ≤ first_of f + k * 20 + r = h (omega arith) in omega arith)
  in_one k hk r hr (number m t hm ht e) =
      let i : ℕ = first_of f + k * 20 in
      let o : ℕ = i + 2 + m * 6 in
      let z : r ≡ m * 6 + (4 + t) = omega arith in
      let y : i + r ≡ o + 2 + t = omega arith in
      elim (by-test k m t hk hm ht (in_d (operand_at f o) && within b.start b.length (start_of (operand_at f o))) refl) [
        | inl g ↦ inl (ap (moved_in_record b q f i) z ∙ number-byte b q f i m t ht ∙ g ∙ ap (byte_at f) (sym y))
        | inr g ↦ inr (subst (InNumber b f) (sym y) g)
      ]

  -- each byte is as it was, or is one of a D number in the block
  pub only-numbers : (x : ℕ) → x < length f → (byte_at (moved_file b q f) x ≡ byte_at f x) ⊎ InNumber b f x
  only-numbers x l =
      elim (dec_lt x (first_of f)) [
        | yes g ↦ inl (moved_at b q f x l ∙ comment-kept b q f (first_of f) (count_of f) x g)
        | no g ↦ elim (dec_lt x (first_of f + 20 * count_of f)) [
          | no h ↦ inl (moved_at b q f x l ∙ trailer-kept b q f (first_of f) (count_of f) x (omega arith))
          | yes h ↦
              let k : ℕ = (x - first_of f) / 20 in
              let r : ℕ = (x - first_of f) % 20 in
              let hk : k < count_of f = omega arith in
              let hr : r < 20 = omega arith in
              let e : x ≡ first_of f + (k * 20 + r) = omega arith in
              let d : x ≡ first_of f + k * 20 + r = omega arith in
              let into : byte_at (moved_file b q f) x ≡ moved_in_record b q f (first_of f + k * 20) r =
              moved_at b q f x l ∙ ap (moved_byte b q f (first_of f) (count_of f)) e ∙ in-record b q f (first_of f) (count_of f) k r hk hr in
              elim (in_one k hk r hr (lies (first_of f + k * 20) (first_of f + k * 20 + r))) [
                | inl z ↦ inl (into ∙ z ∙ ap (byte_at f) (sym d))
                | inr z ↦ inr (subst (InNumber b f) (sym d) z)
              ]
        ]
      ]
