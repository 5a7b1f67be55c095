-- A stack of bits as a byte: one more entry, one less, none.
use Prim.Native.Nat.{ℕ, zero, suc, ◌+◌, ◌-◌, ◌*◌, ◌≤◌, ◌<◌, ◌^◌}
use mathlib.Core.Bool.{Bool}
use mathlib.Core.Path.{◌≡◌}
use native.Mathlib.Nat.{pow-suc, pow-le-pow_right}
use native.Mathlib.Numerals.{add-one}
use native.Mathlib.Omega.{arith}
use Rattle.ec20.proofs.Tests.{one-small}
use Rattle.ec20.specs.Basics.{one_if}
use Rattle.ec20.specs.Flow.{push, pop}
use Rattle.demands.specs.Total.{Holds}

pub holds-none : (x : ℕ) → Holds 0 x → x ≡ 0
holds-none x h = let k : x < 1 = h.bits in omega arith

pub none-holds : Holds 0 0
none-holds = record { few = omega arith; bits = omega arith }

-- of less than eight entries none falls out
pub holds-room : (n x : ℕ) → n < 8 → Holds n x → x < 128
holds-room n x l h =
    let k : 2 ^ n ≤ 128 = pow-le-pow_right {n = 2} (omega arith) {i = n} {j = 7} (omega arith) in omega (arith, h.bits, k)

pub holds-push : (n x : ℕ) (b : Bool) → n < 8 → Holds n x → Holds (n + 1) (push x b)
holds-push n x b l h =
    let k : x < 2 ^ n = h.bits in
    let o : one_if b < 2 = one-small b in
    let z : 2 ^ (n + 1) ≡ 2 ^ n * 2 = rw (add-one n) (pow-suc 2 n) in
    record { few = omega arith; bits = omega arith }

pub holds-pop : (n x : ℕ) → 0 < n → Holds n x → Holds (n - 1) (pop x)
holds-pop zero x l h = absurd (omega arith)
holds-pop (suc n) x l h =
    let k : x < 2 ^ suc n = h.bits in
    let z : 2 ^ suc n ≡ 2 ^ n * 2 = pow-suc 2 n in
    let y : suc n - 1 ≡ n = omega arith in
    let f : suc n ≤ 8 = h.few in
    rw y (record { few = omega arith; bits = omega arith })
