-- Where the place that is found lies. Assumes nothing.
use Prim.Native.Nat.{ℕ, ◌+◌, ◌-◌, ◌≤◌}
use mathlib.Core.Bool.{true}
use mathlib.Core.Path.{◌≡◌, sym, ◌∙◌}
use native.Mathlib.Omega.{arith}
use Rattle.bound.proofs.First.{first-at}
use Rattle.ec20.proofs.NoFault.{place-parts}
use Rattle.ec20.proofs.Ranges.{is-inside}
use Rattle.ec20.specs.Devices.{ec20}
use Rattle.ec20.specs.File.{Records}
use Rattle.ec20.specs.Move.{block, pool, is_place, place_of}
use Rattle.ec20.specs.Found.{Found}
use Rattle.ec20.specs.Found.{At}
use Rattle.mover.specs.Ready.{Sized}
use Rattle.rewrite.specs.Numbers.{Below}

module _ (rs : Records) (s n from end q : ℕ) where
  -- a place lies whole in the pool
  pub in_pool : is_place ec20 rs (block s n) (pool from end) q ≡ true → (from ≤ q) × (q + n ≤ from + (end - from))
  in_pool h = is-inside q n from (end - from) (place-parts ec20 rs (block s n) (pool from end) q h).0

  -- so its numbers are numbers of four bytes
  pub is_below : {x : Found} → x ≡ place_of ec20 rs (block s n) (pool from end) → x ≡ At q → Sized ec20 s n from end → Below s n q
  unfolding place_of
  is_below e f w =
      let h = in_pool (first-at (is_place ec20 rs (block s n) (pool from end)) (end - from) from q (sym e ∙ f)).passes in
      record { start = omega (arith, w.block); length = omega (arith, w.block); place = omega (arith, h.1, w.pool, w.most) }
