-- A number, or 0 where there is none. Assumes nothing.
use Rattle.std.proofs.Common.{◌≡◌, ℕ, Bool, true, false, cond, List, refl}
use Rattle.std.specs.Prelude.{Some, None}
use Rattle.std.specs.Option.{unwrap_or}
use Rattle.calls.specs.Numbers.{value_of, is_number, number_of, number_in}

by_test : (t : Bool) (v : ℕ) → unwrap_or (cond t (Some v) None) 0 ≡ cond t v 0
by_test true v = refl
by_test false v = refl

pub number-or_zero : (s : List ℕ) → unwrap_or (number_in s) 0 ≡ number_of s
unfolding number_in number_of
number-or_zero s = by_test (is_number s) (value_of s)
