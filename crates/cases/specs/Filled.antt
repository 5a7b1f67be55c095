-- Tables of zeros, bytes that are copied, and cases that are counted.
use Rattle.std.specs.Prelude.{ℕ, ◌+◌, ◌%◌, ◌^◌, List, replicate, slice_index, slice_set}
use Rattle.ec20.specs.Basics.{list}
use Rattle.ec20.specs.File.{byte_at}

-- n entries, each of them v
unfoldable pub entries : {A : Type 0} → ℕ → A → List A
entries n v = replicate n v

-- the first n bytes of `from`, and 0 past them
unfoldable pub copied : List ℕ → ℕ → List ℕ
copied from n = list n (λ i. byte_at from i)

-- one more of number k, as far as 64 bits count. A number that has no count changes nothing.
unfoldable pub one_more : ℕ → List ℕ → List ℕ
one_more k met = slice_set met k ((slice_index met k + 1) % 2 ^ 64)
