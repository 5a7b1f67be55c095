-- W, and 8: "W above 10,000,000".
use Rattle.std.specs.Prelude.{ℕ, ◌+◌, ◌*◌, ◌<◌, ◌≡◌}
use Rattle.ec20.specs.declared.Instr.{Instr}
use Rattle.ec20.specs.declared.Instr.TheVariants.{For, Next}
use Rattle.ec20.specs.Code.{Program}

-- a record that is neither FOR nor NEXT
pub record Single (i : Instr) : Type 0 where
  pub no_for : (n : ℕ) → i ≡ For n → ⊥
  pub no_next : i ≡ Next → ⊥

-- The records from k up to e, which is no part of it, are a body, and W of it is w.
pub data Sums (code : ℕ → Instr) : ℕ → ℕ → ℕ → Type 0 where
  nothing : {k : ℕ} → Sums code k k 0
  -- "W of a body is the sum over its records"
  one_record : {k e w : ℕ} → Single (code k) → Sums code (k + 1) e w → Sums code k e (1 + w)
  -- "a loop counting 1 + n x (W of its body + 1)": FOR at record k, its body, its NEXT at record b, and the rest
  one_loop : {k b e n v w : ℕ} → code k ≡ For n → Sums code (k + 1) b v → code b ≡ Next → Sums code (b + 1) e w
      → Sums code k e (1 + n * (v + 1) + w)

-- W of a program: of all its records
abbrev pub WOf : Program → ℕ → Type 0
WOf p w = Sums p.code 0 p.count w

-- 8: "W above 10,000,000"
pub data Line8 (p : Program) : Type 0 where
  above : {w : ℕ} → WOf p w → 10000000 < w → Line8 p
