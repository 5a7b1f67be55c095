-- Numbers that go up by steps, modulo m. Assumes nothing.
use Rattle.std.proofs.Common.{◌≡◌, ℕ, ◌+◌, ◌*◌, ◌%◌, ◌<◌, sym, ap, ◌∙◌, mod-eq_of_lt, mul-zero, mul-one, mul-add, arith}
use native.Mathlib.Nat.{mod-add-mod}

pub step-none : (m v by : ℕ) → v < m → v ≡ (v + by * 0) % m
step-none m v by h =
    let e : v + by * 0 ≡ v = omega (arith, mul-zero by) in
    sym (ap (λ (x : ℕ). x % m) e ∙ mod-eq_of_lt h)

pub step-more : (m v by i : ℕ) → ((v + by * i) % m + by) % m ≡ (v + by * (i + 1)) % m
step-more m v by i =
    let e : v + by * i + by ≡ v + by * (i + 1) = omega (arith, mul-add by i 1, mul-one by) in
    mod-add-mod (v + by * i) m by ∙ ap (λ (x : ℕ). x % m) e
