-- The lowest run of free words is the place that the definition finds. Assumes nothing.
use Prim.Native.Nat.{ℕ, zero, suc, ◌+◌, ◌*◌, ◌-◌, ◌/◌, ◌≤◌, ◌<◌}
use mathlib.Core.Bool.{Bool, true, false, not, ◌&&◌}
use mathlib.Core.List.{List}
use mathlib.Core.Path.{◌≡◌, refl, sym, ap, ◌∙◌}
use native.Mathlib.Decide.{ℕ_discrete}
use native.Mathlib.Omega.{arith}
use lib.Dec.{ltb}
use Rattle.ec20.proofs.Tests.{is_false}
use Rattle.ec20.specs.Basics.{first_at}
use Rattle.ec20.specs.Devices.{Device, within}
use Rattle.ec20.specs.File.{Records}
use Rattle.ec20.specs.Move.{Block, Pool, is_place, place_of}
use Rattle.ec20.specs.Operands.{first_bad}
use Rattle.ec20.specs.UseMap.{holds, some_record, map_of}
use Rattle.ec20.specs.Found.{Found}
use Rattle.ec20.specs.Found.{At, Nowhere}
use Rattle.ec20.specs.Judged.{Fine}
use Rattle.marks.proofs.Maps.{map-marked}
use Rattle.marks.specs.Marked.{marked}
use Rattle.places.specs.Runs.{spare, free, Clear, Lowest}
use Rattle.places.proofs.Clear.{right-clear, clear-right}

-- ---- the first number that passes

module _ (test : ℕ → Bool) where
  first-is : (n k q : ℕ) → k ≤ q → q < k + n → test q ≡ true → ((p : ℕ) → k ≤ p → p < q → test p ≡ true → ⊥) → At q ≡ first_at test k n
  unfolding first_at
  first-is zero k q l u e f = absurd (omega arith)
  first-is (suc n) k q l u e f =
      elim (ℕ_discrete k q) [
        | yes d ↦ let t : test k ≡ true = ap test d ∙ e in ap At (sym d) ∙ rw t refl
        | no d ↦
            let t : test k ≡ false = is_false (test k) (f k (omega arith) (omega arith)) in
            first-is n (k + 1) q (omega arith) (omega arith) e (λ p a. f p (omega arith)) ∙ rw t refl
      ]

  first-none : (n k : ℕ) → ((p : ℕ) → k ≤ p → p < k + n → test p ≡ true → ⊥) → Nowhere ≡ first_at test k n
  unfolding first_at
  first-none zero k f = refl
  first-none (suc n) k f =
      let t : test k ≡ false = is_false (test k) (f k (omega arith) (omega arith)) in
      first-none n (k + 1) (λ p a z. f p (omega arith) (omega arith)) ∙ rw t refl

-- ---- two tests that agree below e find the same

module _ (f g : ℕ → Bool) (e : ℕ) (same : (i : ℕ) → i < e → f i ≡ g i) where
  clear-same : (q n : ℕ) → q + n ≤ e → Clear f q n → Clear g q n
  clear-same q n h c i l u = sym (same i (omega arith)) ∙ c i l u

  clear-back : (q n : ℕ) → q + n ≤ e → Clear g q n → Clear f q n
  clear-back q n h c i l u = same i (omega arith) ∙ c i l u

  lowest-same : (a n : ℕ) (r : Found) → Lowest f a e n r → Lowest g a e n r
  lowest-same a n (At q) (l, u, c, none) = (l, u, clear-same q n u c, λ p b z d. none p b z (clear-back p n (omega arith) d))
  lowest-same a n Nowhere none = λ p b z d. none p b z (clear-back p n z d)

-- ---- the place

module _ (v : Device) (rs : Records) (b : Block) (l : Pool) (some : 0 < b.length) (order : l.start ≤ l.end) (in_D : l.end ≤ v.words) (fine : first_bad v rs ≡ Fine) where
  by-run : (r : Found) → Lowest (spare v rs b) l.start l.end b.length r → r ≡ place_of v rs b l
  unfolding place_of
  by-run (At q) (a, u, c, none) =
      first-is (is_place v rs b l) (l.end - l.start) l.start q a (omega arith) (clear-right v rs b l some order in_D fine q (a, u) c)
      (λ p x y e. none p x y (right-clear v rs b l some order in_D p e).1)
  by-run Nowhere none =
      first-none (is_place v rs b l) (l.end - l.start) l.start
      (λ p x y e. let h = right-clear v rs b l some order in_D p e in none p h.0.0 h.0.1 h.1)

  -- a word is free by the map exactly if it is by the records
  free-spare : (m : List ℕ) → m ≡ map_of v (λ i. some_record (holds i) rs) → (i : ℕ) → i < 8 * (v.words / 8) → free v m b i ≡ spare v rs b i
  unfolding free spare
  free-spare m e i h =
      ap (λ (t : Bool). ltb i v.work && not (within b.start b.length i) && not t)
      (ap (λ (l : List ℕ). marked l i) e ∙ map-marked v (λ i. some_record (holds i) rs) i h)

  -- the lowest run of words that the map has free is the place
  pub by_map : (m : List ℕ) (r : Found) → l.end ≤ 8 * (v.words / 8) → m ≡ map_of v (λ i. some_record (holds i) rs)
      → Lowest (free v m b) l.start l.end b.length r → r ≡ place_of v rs b l
  by_map m r h e s = by-run r (lowest-same (free v m b) (spare v rs b) l.end (λ i z. free-spare m e i (omega arith)) l.start b.length r s)
