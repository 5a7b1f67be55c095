-- A map of D words as a table of bits: a word is marked where its bit is 1.
use Rattle.std.specs.Prelude.{ℕ, zero, suc, ◌+◌, ◌≤◌, Bool, ◌||◌, List, ◌≡◌, eqb}
use Rattle.ec20.specs.Basics.{pick, some_below}
use Rattle.ec20.specs.Bits.{bit_at, with_bit}
use Rattle.ec20.specs.Devices.{Device}
use Rattle.ec20.specs.File.{Records}
use Rattle.ec20.specs.Operands.{in_d, start_of, extent_of}
use Rattle.ec20.specs.UseMap.{map_of, record_has}
use Rattle.ec20.specs.declared.Operand.{Operand}
use Rattle.ec20.specs.declared.Place.{Place}

-- word i is marked
unfoldable pub marked : List ℕ → ℕ → Bool
marked m i = eqb (bit_at m i) 1

-- the map with the n words from a on marked
unfoldable pub marking : List ℕ → ℕ → ℕ → List ℕ
marking m a zero = m
marking m a (suc n) = with_bit (marking m a n) (a + n) 1

-- the map with the words marked that the operand's extent holds
unfoldable pub marking_held : List ℕ → Place → Operand → List ℕ
marking_held m p o = pick (in_d o) (marking m (start_of o) (extent_of p o)) m

-- the second map is the first with the words marked that pass the test: for every test p by which the first is a map
pub record Widened (v : Device) (t : ℕ → Bool) (m n : List ℕ) : Type 0 where
  pub by : (p : ℕ → Bool) → m ≡ map_of v p → n ≡ map_of v (λ i. p i || t i)

-- the map has the words marked that the first k records pass the test with, at one of their operands
pub record Passed (v : Device) (test : ℕ → Place → Operand → Bool) (rs : Records) (k : ℕ) (m : List ℕ) : Type 0 where
  pub below : k ≤ rs.count
  pub is : m ≡ map_of v (λ i. some_below k (λ j. record_has (test i) (rs.at j)))
