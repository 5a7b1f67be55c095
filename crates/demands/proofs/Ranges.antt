-- Ranges of words as the definitions test them, and by their words.
use Prim.Native.Nat.{ℕ, ◌+◌, ◌-◌, ◌≤◌, ◌<◌}
use mathlib.Core.Bool.{Bool, true, false}
use mathlib.Core.Path.{◌≡◌, sym, ◌∙◌}
use native.Mathlib.Omega.{arith}
use Rattle.ec20.proofs.Ranges.{is-meets, common, common-meets as by-numbers, one_out as number-out}
use Rattle.ec20.proofs.Tests.{differ}
use Rattle.ec20.specs.Devices.{Device, meets, inside, meets_work}
use Rattle.demands.specs.Lines.{In, Work}

pub not-both : {t : Bool} → t ≡ true → t ≡ false → ⊥
not-both a b = differ (sym a ∙ b)

-- two ranges that are not empty meet: they have a word in common
pub in-common : (a n b m : ℕ) → 0 < n → 0 < m → meets a n b m ≡ true → (i : ℕ) × In a n i × In b m i
in-common a n b m h k e =
    let q = common a n b m h k e in
    (q.0, record { from = q.1; to = q.2 }, record { from = q.3; to = q.4 })

pub common-meets : (a n b m i : ℕ) → In a n i → In b m i → meets a n b m ≡ true
common-meets a n b m i h k = by-numbers a n b m i h.from h.to k.from k.to

-- the same of WORK, for words that lie in D
pub work-common : (v : Device) (a n : ℕ) → 0 < n → a + n ≤ v.words → meets_work v a n ≡ true → (i : ℕ) × In a n i × Work v i
unfolding meets_work
work-common v a n h k e =
    let w : v.work < a + n = (is-meets a n v.work (v.words - v.work) e).1 in
    in-common a n v.work (v.words - v.work) h (omega arith) e

pub common-work : (v : Device) (a n i : ℕ) → In a n i → Work v i → meets_work v a n ≡ true
unfolding meets_work
common-work v a n i h k = common-meets a n v.work (v.words - v.work) i h k

-- a range that is not empty and not inside another has a word that is not in it
pub one_out : (a n b m : ℕ) → 0 < n → inside a n b m ≡ false → (i : ℕ) × In a n i × (In b m i → ⊥)
one_out a n b m h e = let q = number-out a n b m h e in (q.0, record { from = q.1; to = q.2 }, λ z. q.3 z.from z.to)
