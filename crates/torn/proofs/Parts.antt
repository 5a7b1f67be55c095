-- Equal salvages that are done tell the same. Assumes nothing.
use Prim.Native.Nat.{ℕ}
use mathlib.Core.Path.{◌≡◌, ap}
use Rattle.std.specs.Prelude.{Ok, Err}
use Rattle.torn.specs.Salvaged.{Salvaged, Done}

kept_told : Salvaged → ℕ
kept_told (Ok s) = s.kept
kept_told (Err r) = 0

added_told : Salvaged → ℕ
added_told (Ok s) = s.added
added_told (Err r) = 0

rest_told : Salvaged → ℕ
rest_told (Ok s) = s.rest
rest_told (Err r) = 0

pub done-parts : (c a q n m r : ℕ) → Done c a q ≡ Done n m r → (c ≡ n) × (a ≡ m) × (q ≡ r)
unfolding kept_told added_told rest_told
done-parts c a q n m r e = (ap kept_told e, ap added_told e, ap rest_told e)
