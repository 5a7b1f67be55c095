-- The exchange of block and place of a task, word by word: where a word goes, that the exchanges of disjoint tasks commute, and that the way back is the same
-- exchange. Assumes nothing.
use Prim.Native.Nat.{ℕ, ◌+◌, ◌-◌, ◌<◌}
use mathlib.Core.Bool.{false}
use mathlib.Core.Path.{◌≡◌, sym, ap, ◌∙◌}
use native.Mathlib.Decide.{dec_lt, dec_le}
use native.Mathlib.Omega.{arith}
use Rattle.blocks.proofs.Swapped.{Clear, clear}
use Rattle.demands.specs.Lines.{In}
use Rattle.ec20.proofs.Ranges.{within-yes, is_within, common}
use Rattle.ec20.proofs.Tests.{is_false}
use Rattle.ec20.specs.Devices.{within, meets}
use Rattle.ec20.specs.Exchange.{swapped}
use Rattle.jobs.specs.Tasks.{Task, back}
use Rattle.orders.specs.Two.{Touched, in_block, in_place, Disjoint}

-- ---- words in a row

in_row : (a n i : ℕ) → Dec (In a n i)
in_row a n i =
    elim (dec_le a i) [
      | yes h ↦ elim (dec_lt i (a + n)) [ yes g ↦ yes (record { from = h; to = g }) | no g ↦ no (λ x. g x.to) ]
      | no h ↦ no (λ x. h x.from)
    ]

out-of-row : (a n i : ℕ) → (In a n i → ⊥) → within a n i ≡ false
out-of-row a n i h = is_false (within a n i) (λ e. let w = is_within a n i e in h (record { from = w.0; to = w.1 }))

-- rows without a word in common, neither of them empty, do not meet, and lie clear of each other
module _ (a n b m : ℕ) (x : 0 < n) (y : 0 < m) (h : (i : ℕ) → In a n i → In b m i → ⊥) where
  pub unmet : meets a n b m ≡ false
  unmet =
      is_false (meets a n b m)
      (λ e. let c = common a n b m x y e in h c.0 (record { from = c.1; to = c.2 }) (record { from = c.3; to = c.4 }))

  pub clear_of : Clear a n b m
  clear_of = clear a n b m unmet

-- ---- one task

module _ (t : Task) where
  abbrev pub exchange_of : ℕ → ℕ
  exchange_of = swapped t.block t.place

  abbrev Block : ℕ → Type 0
  Block i = In t.block.start t.block.length i

  abbrev Place : ℕ → Type 0
  Place i = In t.place t.block.length i

  touched : (i : ℕ) → Dec (Touched t i)
  touched i =
      elim (in_row t.block.start t.block.length i) [
        | yes h ↦ yes (in_block h)
        | no h ↦ elim (in_row t.place t.block.length i) [
          | yes g ↦ yes (in_place g)
          | no g ↦ no (λ x. elim x [ in_block y ↦ h y | in_place y ↦ g y ])
        ]
      ]

  -- a word of the block goes to the place, one of the place to the block, and any other stays
  goes : (i : ℕ) → Block i → exchange_of i ≡ i - t.block.start + t.place
  unfolding swapped
  goes i h = rw (within-yes t.block.start t.block.length i h.from h.to)

  comes : (i : ℕ) → (Block i → ⊥) → Place i → exchange_of i ≡ i - t.place + t.block.start
  unfolding swapped
  comes i g h = rw (out-of-row t.block.start t.block.length i g, within-yes t.place t.block.length i h.from h.to)

  pub stays : (i : ℕ) → (Touched t i → ⊥) → exchange_of i ≡ i
  unfolding swapped
  stays i h =
      rw (out-of-row t.block.start t.block.length i (λ x. h (in_block x)), out-of-row t.place t.block.length i (λ x. h (in_place x)))

  -- so what is of block or place stays there
  pub keeps : (i : ℕ) → Touched t i → Touched t (exchange_of i)
  keeps i (in_block h) = in_place (rw (goes i h) (record { from = omega arith; to = omega (arith, h.from, h.to) }))
  keeps i (in_place h) =
      elim (in_row t.block.start t.block.length i) [
        | yes g ↦ in_place (rw (goes i g) (record { from = omega arith; to = omega (arith, g.from, g.to) }))
        | no g ↦ in_block (rw (comes i g h) (record { from = omega arith; to = omega (arith, h.from, h.to) }))
      ]

-- ---- two tasks

-- the exchanges of disjoint tasks, in either order
pub commute : (s t : Task) → Disjoint s t → (i : ℕ) → exchange_of t (exchange_of s i) ≡ exchange_of s (exchange_of t i)
commute s t d i =
    elim (touched s i) [
      | yes h ↦ stays t (exchange_of s i) (d (exchange_of s i) (keeps s i h)) ∙ sym (ap (exchange_of s) (stays t i (d i h)))
      | no h ↦ elim (touched t i) [
        | yes g ↦ ap (exchange_of t) (stays s i h) ∙ sym (stays s (exchange_of t i) (λ x. d (exchange_of t i) x (keeps t i g)))
        | no g ↦ ap (exchange_of t) (stays s i h) ∙ stays t i g ∙ sym (stays s i h) ∙ sym (ap (exchange_of s) (stays t i g))
      ]
    ]

-- ---- and back

-- block and place apart: the way back is the same exchange
pub back-same : (t : Task) → ((i : ℕ) → Block t i → Place t i → ⊥) → (i : ℕ) → exchange_of (back t) i ≡ exchange_of t i
back-same t apart i =
    elim (in_row t.block.start t.block.length i) [
      | yes h ↦ comes (back t) i (λ g. apart i h g) h ∙ sym (goes t i h)
      | no h ↦ elim (in_row t.place t.block.length i) [
        | yes g ↦ goes (back t) i g ∙ sym (comes t i h g)
        | no g ↦
            stays (back t) i (λ x. elim x [ in_block y ↦ g y | in_place y ↦ h y ])
            ∙ sym (stays t i (λ x. elim x [ in_block y ↦ h y | in_place y ↦ g y ]))
      ]
    ]
