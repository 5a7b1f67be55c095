-- The words exchanged one after the other. Assumes nothing.
use Prim.Native.Nat.{ℕ, ◌+◌, ◌-◌, ◌≤◌, ◌<◌}
use mathlib.Core.List.{List}
use mathlib.Core.Logic.{inl, inr}
use mathlib.Core.Path.{◌≡◌, refl, sym, ap, subst, ◌∙◌}
use native.Mathlib.Decide.{ℕ_discrete}
use native.Mathlib.Omega.{arith}
use lib.IntN.{ℤ, pos}
use lib.ListN.{length, set, length-set}
use lib.Seq.{ext_get_or, get_or-set_same, get_or-set_other}
use Rattle.blocks.proofs.Swapped.{Clear, clear}
use Rattle.blocks.specs.Apart.{Apart}
use Rattle.ec20.proofs.Ranges.{within-yes, within-no, within_more}
use Rattle.ec20.proofs.Exchanges.{exchange-length, exchange-at}
use Rattle.ec20.specs.Devices.{ec20}
use Rattle.ec20.specs.Exchange.{swapped, exchanged}
use Rattle.ec20.specs.Move.{block}
use Rattle.ec20.specs.Registers.{word_at}

-- where a word goes: from the block, from the place, from elsewhere
module _ (s n q i : ℕ) where
  pub from_block : s ≤ i → i < s + n → swapped (block s n) q i ≡ i - s + q
  unfolding swapped
  from_block h g = rw (within-yes s n i h g) refl

  pub from_place : (s ≤ i → s + n ≤ i) → q ≤ i → i < q + n → swapped (block s n) q i ≡ i - q + s
  unfolding swapped
  from_place h k g = rw (within-no s n i h, within-yes q n i k g) refl

  pub from-elsewhere : (s ≤ i → s + n ≤ i) → (q ≤ i → q + n ≤ i) → swapped (block s n) q i ≡ i
  unfolding swapped
  from-elsewhere h k = rw (within-no s n i h, within-no q n i k) refl

-- one word more: no other word goes elsewhere for that
swapped-more : (s n q i : ℕ) → (i ≡ s + n → ⊥) → (i ≡ q + n → ⊥) → swapped (block s (n + 1)) q i ≡ swapped (block s n) q i
unfolding swapped
swapped-more s n q i h g = rw (within_more s n i h, within_more q n i g) refl

-- nothing exchanged yet
pub exchanged-none : (s q : ℕ) (d : List ℤ) → d ≡ exchanged (block s 0) q d
exchanged-none s q d =
    ext_get_or (pos 0) d (exchanged (block s 0) q d) (sym (exchange-length (swapped (block s 0) q) d))
    (λ i l. sym (exchange-at (swapped (block s 0) q) d i l ∙ ap (word_at d) (from-elsewhere s 0 q i (λ h. omega arith) (λ h. omega arith))))

-- the next word of block and place
module _ (s n q : ℕ) (d : List ℤ) (w : Apart ec20 (block s n) q) (size : length d ≡ 8000) (j : ℕ) (h : j < n) where
  -- one ends before the other begins
  side : Clear q n s n
  side = clear q n s n w.apart

  abbrev E : List ℤ
  E = exchanged (block s j) q d

  abbrev F : List ℤ
  F = set (set E (s + j) (word_at E (q + j))) (q + j) (word_at E (s + j))

  -- it is as it was
  at_block : word_at E (s + j) ≡ word_at d (s + j)
  at_block =
      exchange-at (swapped (block s j) q) d (s + j) (omega (arith, w.block_in))
      ∙ ap (word_at d) (from-elsewhere s j q (s + j) (λ _. omega arith) (λ k. elim side [ inl l ↦ omega arith | inr l ↦ omega arith ]))

  at_place : word_at E (q + j) ≡ word_at d (q + j)
  at_place =
      exchange-at (swapped (block s j) q) d (q + j) (omega (arith, w.place_in))
      ∙ ap (word_at d) (from-elsewhere s j q (q + j) (λ k. elim side [ inl l ↦ omega arith | inr l ↦ omega arith ]) (λ _. omega arith))

  length-F : length F ≡ length d
  length-F = simp (length-set, exchange-length)

  word-F : (i : ℕ) → i < length d → word_at F i ≡ word_at d (swapped (block s (j + 1)) q i)
  word-F i l =
      let le : length (set E (s + j) (word_at E (q + j))) ≡ length d = simp (length-set, exchange-length) in
      let lb : length E ≡ length d = exchange-length (swapped (block s j) q) d in
      elim (ℕ_discrete i (q + j)) [
        | yes e ↦
            rw e
            (get_or-set_same (set E (s + j) (word_at E (q + j))) (q + j) (word_at E (s + j)) (pos 0) (omega (arith, w.place_in))
            ∙ at_block
            ∙ ap (word_at d)
            (sym (from_place s (j + 1) q (q + j) (λ k. elim side [ inl z ↦ omega arith | inr z ↦ omega arith ]) (omega arith) (omega arith)
            ∙ let z : q + j - q + s ≡ s + j = omega arith in z)))
        | no g ↦
            get_or-set_other (set E (s + j) (word_at E (q + j))) (q + j) i (word_at E (s + j)) (pos 0) g
            ∙ elim (ℕ_discrete i (s + j)) [
              | yes e ↦
                  rw e
                  (get_or-set_same E (s + j) (word_at E (q + j)) (pos 0) (omega (arith, w.block_in))
                  ∙ at_place
                  ∙ ap (word_at d)
                  (sym (from_block s (j + 1) q (s + j) (omega arith) (omega arith) ∙ let z : s + j - s + q ≡ q + j = omega arith in z)))
              | no f ↦
                  get_or-set_other E (s + j) i (word_at E (q + j)) (pos 0) f
                  ∙ exchange-at (swapped (block s j) q) d i l
                  ∙ ap (word_at d) (sym (swapped-more s j q i f g))
            ]
      ]

  next : F ≡ exchanged (block s (j + 1)) q d
  next =
      ext_get_or (pos 0) F (exchanged (block s (j + 1)) q d) (length-F ∙ sym (exchange-length (swapped (block s (j + 1)) q) d))
      (λ i l. let l' : i < length d = subst (λ (k : ℕ). i < k) length-F l in word-F i l' ∙ sym (exchange-at (swapped (block s (j + 1)) q) d i l'))

  -- the same, of tables that a call gives
  pub exchanged-more : {x y : List ℤ} → x ≡ E → y ≡ set (set x (s + j) (word_at x (q + j))) (q + j) (word_at x (s + j))
      → y ≡ exchanged (block s (j + 1)) q d
  exchanged-more e f = f ∙ rw e next
