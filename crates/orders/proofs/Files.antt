-- A file is its bytes outside the records, and its records. Assumes nothing.
use Prim.Native.Nat.{ℕ, ◌+◌, ◌-◌, ◌*◌, ◌/◌, ◌%◌, ◌≤◌, ◌<◌}
use mathlib.Core.List.{List}
use mathlib.Core.Path.{◌≡◌, ap, subst}
use native.Mathlib.Decide.{dec_lt}
use native.Mathlib.Omega.{arith}
use lib.ListN.{length}
use lib.Seq.{ext_get_or}
use Rattle.ec20.specs.declared.Operand.{Operand}
use Rattle.ec20.specs.declared.Rec.{Rec}
use Rattle.ec20.specs.File.{byte_at, u32_at, operand_at, record_from}

module _ (g h : List ℕ) (byte-g : (i : ℕ) → byte_at g i < 256) (byte-h : (i : ℕ) → byte_at h i < 256) where
  -- the same number: the same four bytes
  same_bytes : (i : ℕ) → u32_at g i ≡ u32_at h i
      → (byte_at g i ≡ byte_at h i) × (byte_at g (i + 1) ≡ byte_at h (i + 1)) × (byte_at g (i + 2) ≡ byte_at h (i + 2)) × (byte_at g (i + 3) ≡ byte_at h (i + 3))
  unfolding u32_at
  same_bytes i e =
      let g0 = byte-g i in
      let g1 = byte-g (i + 1) in
      let g2 = byte-g (i + 2) in
      let g3 = byte-g (i + 3) in
      let h0 = byte-h i in
      let h1 = byte-h (i + 1) in
      let h2 = byte-h (i + 2) in
      let h3 = byte-h (i + 3) in
      (omega (arith, e), omega (arith, e), omega (arith, e), omega (arith, e))

  -- the same operand: the same six bytes
  same_operand : (i : ℕ) → operand_at g i ≡ operand_at h i → (j : ℕ) → j < 6 → byte_at g (i + j) ≡ byte_at h (i + j)
  unfolding operand_at
  same_operand i e j l =
      let q = same_bytes (i + 2) (ap (λ (o : Operand). o.value) e) in
      let at : (n m : ℕ) → n ≡ m → byte_at g m ≡ byte_at h m → byte_at g n ≡ byte_at h n = λ n m z x. subst (λ (k : ℕ). byte_at g k ≡ byte_at h k) (omega (arith, z)) x in
      elim (dec_lt j 1) [
        | yes a ↦ at (i + j) i (omega arith) (ap (λ (o : Operand). o.kind) e)
        | no a ↦ elim (dec_lt j 2) [
          | yes b ↦ at (i + j) (i + 1) (omega arith) (ap (λ (o : Operand). o.group) e)
          | no b ↦ elim (dec_lt j 3) [
            | yes c ↦ at (i + j) (i + 2) (omega arith) q.0
            | no c ↦ elim (dec_lt j 4) [
              | yes d ↦ at (i + j) (i + 2 + 1) (omega arith) q.1
              | no d ↦ elim (dec_lt j 5) [ yes f ↦ at (i + j) (i + 2 + 2) (omega arith) q.2 | no f ↦ at (i + j) (i + 2 + 3) (omega arith) q.3 ]
            ]
          ]
        ]
      ]

  -- the same record: the same twenty bytes
  same_record : (i : ℕ) → record_from g i ≡ record_from h i → (r n : ℕ) → r < 20 → n ≡ i + r → byte_at g n ≡ byte_at h n
  unfolding record_from
  same_record i e r n l z =
      let at : (m : ℕ) → n ≡ m → byte_at g m ≡ byte_at h m → byte_at g n ≡ byte_at h n = λ m y x. subst (λ (k : ℕ). byte_at g k ≡ byte_at h k) (omega (arith, y)) x in
      elim (dec_lt r 1) [
        | yes a ↦ at i (omega arith) (ap (λ (x : Rec). x.number) e)
        | no a ↦ elim (dec_lt r 2) [
          | yes b ↦ at (i + 1) (omega arith) (ap (λ (x : Rec). x.spare) e)
          | no b ↦ elim (dec_lt r 8) [
            | yes c ↦ at (i + 2 + (r - 2)) (omega arith) (same_operand (i + 2) (ap (λ (x : Rec). x.first) e) (r - 2) (omega arith))
            | no c ↦ elim (dec_lt r 14) [
              | yes d ↦ at (i + 8 + (r - 8)) (omega arith) (same_operand (i + 8) (ap (λ (x : Rec). x.second) e) (r - 8) (omega arith))
              | no d ↦ at (i + 14 + (r - 14)) (omega arith) (same_operand (i + 14) (ap (λ (x : Rec). x.third) e) (r - 14) (omega arith))
            ]
          ]
        ]
      ]

  -- `count` records from the byte `first` on, and what stands before and after them
  pub same-file : (first count : ℕ) → length g ≡ length h → ((i : ℕ) → i < first → i < length h → byte_at g i ≡ byte_at h i)
      → ((i : ℕ) → first + 20 * count ≤ i → i < length h → byte_at g i ≡ byte_at h i)
      → ((k : ℕ) → k < count → record_from g (first + 20 * k) ≡ record_from h (first + 20 * k)) → g ≡ h
  same-file first count size before after records =
      ext_get_or 0 g h size
      (λ i l.
      let m : i < length h = subst (λ (n : ℕ). i < n) size l in
      elim (dec_lt i first) [
        | yes a ↦ before i a m
        | no a ↦ elim (dec_lt i (first + 20 * count)) [
          | yes b ↦
              let k : ℕ = (i - first) / 20 in
              let r : ℕ = (i - first) % 20 in
              same_record (first + 20 * k) (records k (omega arith)) r i (omega arith) (omega arith)
          | no b ↦ after i (omega arith) m
        ]
      ])
