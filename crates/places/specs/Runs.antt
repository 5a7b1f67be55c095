-- Free words, and the lowest run of so many of them.
use Rattle.std.specs.Prelude.{ℕ, ◌+◌, ◌≤◌, ◌<◌, Bool, true, not, ◌&&◌, List, ◌≡◌, ltb}
use Rattle.ec20.specs.Devices.{Device, within}
use Rattle.ec20.specs.File.{Records}
use Rattle.ec20.specs.Move.{Block}
use Rattle.ec20.specs.UseMap.{holds, some_record}
use Rattle.ec20.specs.Found.{Found}
use Rattle.ec20.specs.Found.{At, Nowhere}
use Rattle.marks.specs.Marked.{marked}

-- word i is free: not in WORK, not in the block, and not in use; by the records
unfoldable pub spare : Device → Records → Block → ℕ → Bool
spare v rs b i = ltb i v.work && not (within b.start b.length i) && not (some_record (holds i) rs)

-- the same by a map of the words in use
unfoldable pub free : Device → List ℕ → Block → ℕ → Bool
free v m b i = ltb i v.work && not (within b.start b.length i) && not (marked m i)

-- each of the n words from q on passes
abbrev pub Clear : (ℕ → Bool) → ℕ → ℕ → Type 0
Clear test q n = (i : ℕ) → q ≤ i → i < q + n → test i ≡ true

-- the lowest start, from a on, of n words that all pass and all lie below e; nowhere exactly if there is none
abbrev pub Lowest : (ℕ → Bool) → ℕ → ℕ → ℕ → Found → Type 0
Lowest test a e n (At q) = (a ≤ q) × (q + n ≤ e) × Clear test q n × ((p : ℕ) → a ≤ p → p < q → Clear test p n → ⊥)
Lowest test a e n Nowhere = (p : ℕ) → a ≤ p → p + n ≤ e → Clear test p n → ⊥
