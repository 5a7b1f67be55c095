-- The law of whole roots: the root's square is at most n, the next number's is above n, there is one such number, and bit by bit from the top finds it. Assumes nothing.
use mathlib.Core.Path.{◌≡◌, refl, ap, subst, ◌∙◌}
use Prim.Native.Nat.{ℕ, zero, suc, ◌+◌, ◌-◌, ◌*◌, ◌/◌, ◌≤◌, ◌<◌, ◌^◌}
use native.Mathlib.Nat.{mul-le-mul, pow-suc}
use native.Mathlib.Decide.{dec_lt}
use native.Mathlib.Omega.{arith}
use lib.Pow.{pow_pos}
use Rattle.ec20.specs.Numbers.{root_of}
use Rattle.ec20.proofs.Laws.{root-low, root-high}

-- r is the largest whole root of n
abbrev pub Root : ℕ → ℕ → Type 0
Root n r = (r * r ≤ n) × (n < (r + 1) * (r + 1))

-- the root's square is at most n, and the next number's square is above n
pub root-law : (n : ℕ) → Root n (root_of n)
root-law n = (root-low n, omega (arith, root-high n))

-- squares keep the order
not-above : (n r s : ℕ) → r * r ≤ n → n < (s + 1) * (s + 1) → r ≤ s
not-above n r s low high = go (dec_lt s r)
  where
    go : Dec (s < r) → r ≤ s
    go (yes l) = absurd (omega (arith, mul-le-mul {n₁ = s + 1} {m₁ = s + 1} {n₂ = r} {m₂ = r} (omega arith) (omega arith)))
    go (no k) = omega arith

-- a number that meets the law is the root
pub root-unique : (n r : ℕ) → Root n r → r ≡ root_of n
root-unique n r m =
    let k = root-law n in
    let p = not-above n r (root_of n) m.0 k.1 in
    let q = not-above n (root_of n) r k.0 m.1 in
    omega arith

-- a root is no larger than its number
pub root-small : (n : ℕ) → root_of n ≤ n
root-small n = go (root_of n) (root-law n).0
  where
    go : (r : ℕ) → r * r ≤ n → r ≤ n
    go zero l = omega arith
    go (suc r) l = omega arith

-- ---- bit by bit

-- s is the root of n as far as the bits from p up go, of 16 bits in all, rest is n less its square, and r is s times p
abbrev Part : ℕ → ℕ → ℕ → ℕ → ℕ → Type 0
Part n p s rest r = (rest + s * s ≡ n) × (n < (s + p) * (s + p)) × (r ≡ s * p) × (s + p ≤ 65536)

-- the bits from 2 ^ k up are judged, and place is the square of the next one, 0 below the lowest
abbrev pub Judged : ℕ → ℕ → ℕ → ℕ → Type 0
Judged n rest r place = (k : ℕ) × (s : ℕ) × Part n (2 ^ k) s rest r × (place ≡ 2 ^ k * 2 ^ k / 4)

-- the bit t, half of p, is in the root where rest has what the square grows by with it, and is not where rest is below
bit_in : (n t s rest r : ℕ) → Part n (t + t) s rest r → r + t * t ≤ rest → Part n t (s + t) (rest - (r + t * t)) (r / 2 + t * t)
bit_in n t s rest r (e, h, f, b) m = (rw f (omega arith), omega arith, rw f (omega arith), omega arith)

bit-out : (n t s rest r : ℕ) → Part n (t + t) s rest r → rest < r + t * t → Part n t s rest (r / 2)
bit-out n t s rest r (e, h, f, b) m = (e, omega arith, rw f (omega arith), omega arith)

-- what the square grows by has 32 bits
bit-fits : (n t s rest r : ℕ) → Part n (t + t) s rest r → 1 ≤ t → r + t * t < 4294967296
bit-fits n t s rest r (e, h, f, b) m =
    rw f (omega (arith, mul-le-mul {n₁ = s + t} {m₁ = s + t} {n₂ = 65535} {m₂ = 65535} (omega arith) (omega arith)))

double : (j : ℕ) → 2 ^ suc j ≡ 2 ^ j + 2 ^ j
double j = omega (arith, pow-suc 2 j)

square-below : (j : ℕ) → 2 ^ suc j * 2 ^ suc j / 4 ≡ 2 ^ j * 2 ^ j
square-below j = rw (double j) (omega arith)

-- a place above 0 is the square of some 2 ^ j
next_bit : (n rest r place : ℕ) → Judged n rest r place → 0 < place → (j : ℕ) × (s : ℕ) × Part n (2 ^ j + 2 ^ j) s rest r × (place ≡ 2 ^ j * 2 ^ j)
next_bit n rest r place (zero, s, p, e) l = absurd (omega arith)
next_bit n rest r place (suc j, s, p, e) l = (j, s, subst (λ (q : ℕ). Part n q s rest r) (double j) p, e ∙ square-below j)

-- a turn
pub turn-fits : (n rest r place : ℕ) → Judged n rest r place → 0 < place → r + place < 4294967296
turn-fits n rest r place g l =
    let (j, s, p, e) = next_bit n rest r place g l in
    rw e (bit-fits n (2 ^ j) s rest r p (pow_pos j))

pub turn_in : (n rest r place : ℕ) → Judged n rest r place → 0 < place → r + place ≤ rest → Judged n (rest - (r + place)) (r / 2 + place) (place / 4)
turn_in n rest r place g l m =
    let (j, s, p, e) = next_bit n rest r place g l in
    rw e (j, s + 2 ^ j, bit_in n (2 ^ j) s rest r p (omega arith), refl)

pub turn-out : (n rest r place : ℕ) → Judged n rest r place → 0 < place → rest < r + place → Judged n rest (r / 2) (place / 4)
turn-out n rest r place g l m =
    let (j, s, p, e) = next_bit n rest r place g l in
    (j, s, bit-out n (2 ^ j) s rest r p (omega arith), ap (λ (q : ℕ). q / 4) e)

-- with the lowest bit judged, r is the root
pub judged-all : (n rest r : ℕ) → Judged n rest r 0 → r ≡ root_of n
judged-all n rest r (zero, s, (e, h, f, b), z) = root-unique n r (rw f (omega arith, omega arith))
judged-all n rest r (suc k, s, p, z) =
    absurd (omega (arith, square-below k, mul-le-mul {n₁ = 1} {m₁ = 1} {n₂ = 2 ^ k} {m₂ = 2 ^ k} (pow_pos k) (pow_pos k)))
